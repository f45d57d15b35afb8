-- Samples in their slots: a push overwrites only what is no longer kept.
use Prim.Native.Nat.{ℕ, ◌+◌, ◌/◌, ◌%◌, ◌≤◌, ◌<◌}
use mathlib.Core.Path.{◌≡◌, refl, sym, ◌∙◌}
use mathlib.Core.List.{List, [], ◌∷◌, ◌++◌, append_assoc, append-nil}
use mathlib.Core.Bool.{Bool, true, false}
use native.Mathlib.Omega.{arith}
use native.Mathlib.Nat.{mod-lt, div-add-mod', mul-le-mul_right, suc-mul, add-zero}
use lib.ListN.{length, get_or, set, length-set, length-append, get_or-append}
use lib.Seq.{get_or-append-add, get_or-set_same, get_or-set_other}
use lib.Dec.{leb, eqb}
use borrow.Author.Tests.{leb-true, leb-false, eqb-true, eqb-false}
use Rattle.ring.specs.Ring.{stored}

apart_slots' : (a n m : ℕ) (t : Bool) → leb (n / m) (a / m) ≡ t → a < n → n < a + m → a % m ≡ n % m → ⊥
apart_slots' a n m true e before near same =
    omega (arith, mul-le-mul_right m (leb-true (n / m) (a / m) e), div-add-mod' a m, div-add-mod' n m)
apart_slots' a n m false e before near same =
    omega (arith, mul-le-mul_right m (leb-false (n / m) (a / m) e), suc-mul (a / m) m, div-add-mod' a m, div-add-mod' n m)

-- two indices less than the capacity apart do not share a slot
apart_slots : (a n m : ℕ) → a < n → n < a + m → a % m ≡ n % m → ⊥
apart_slots a n m = apart_slots' a n m (leb (n / m) (a / m)) refl

-- every index that is kept stands in its slot
unfoldable pub Stand : List ℕ → List ℕ → Type 0
Stand buf all = (a : ℕ) → a < length all → length all ≤ a + length buf → get_or buf (a % length buf) 0 ≡ get_or all a 0

last_one : (all : List ℕ) (x : ℕ) → get_or (all ++ (x ∷ [])) (length all) 0 ≡ x
last_one all x = rw (add-zero (length all)) at (get_or-append-add all (x ∷ []) 0 0)

stand_one' : (buf all : List ℕ) (x a : ℕ) (t : Bool) → eqb a (length all) ≡ t → 0 < length buf → Stand buf all → a < length all + 1 → length all + 1 ≤ a + length buf
    → get_or (set buf (length all % length buf) x) (a % length buf) 0 ≡ get_or (all ++ (x ∷ [])) a 0
unfolding Stand
stand_one' buf all x a true e some s old young =
    rw (eqb-true a (length all) e) (get_or-set_same buf _ x 0 (mod-lt (length all) some) ∙ sym (last_one all x))
stand_one' buf all x a false e some s old young =
    let differs = eqb-false a (length all) e in
    let before : a < length all = omega arith in
    let near : length all < a + length buf = omega arith in
    let kept : length all ≤ a + length buf = omega arith in
    get_or-set_other buf _ _ x 0 (apart_slots a (length all) (length buf) before near) ∙ (s a before kept ∙ sym (get_or-append all (x ∷ []) 0 a before))

-- one more sample, at the slot of the next index
stand_one : (buf all : List ℕ) (x : ℕ) → 0 < length buf → Stand buf all → Stand (set buf (length all % length buf) x) (all ++ (x ∷ []))
unfolding Stand
stand_one buf all x some s a old young =
    let m : length (set buf (length all % length buf) x) ≡ length buf = length-set buf _ x in
    let n : length (all ++ (x ∷ [])) ≡ length all + 1 = length-append all (x ∷ []) in
    rw m (stand_one' buf all x a (eqb a (length all)) refl some s (omega arith) (omega arith))

pub stored_length : (next : ℕ) (buf xs : List ℕ) → length (stored next buf xs) ≡ length buf
stored_length next buf [] = refl
stored_length next buf (x ∷ xs) = stored_length (next + 1) (set buf (next % length buf) x) xs ∙ length-set buf (next % length buf) x

pub stand_all : (next : ℕ) (buf all xs : List ℕ) → next ≡ length all → 0 < length buf → Stand buf all → Stand (stored next buf xs) (all ++ xs)
stand_all next buf all [] e some s = rw append-nil s
stand_all next buf all (x ∷ xs) e some s =
    let b = set buf (next % length buf) x in
    let more : Stand b (all ++ (x ∷ [])) = rw e (stand_one buf all x some s) in
    let m : length b ≡ length buf = length-set buf _ x in
    let count : next + 1 ≡ length (all ++ (x ∷ [])) = omega (arith, length-append all (x ∷ [])) in
    rw append_assoc at (stand_all (next + 1) b (all ++ (x ∷ [])) xs count (omega arith) more)
