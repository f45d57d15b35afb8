-- Laws of choices, tests, lists, tables and remainders.
use Prim.Native.Nat.{ℕ, zero, suc, ◌+◌, ◌*◌, ◌/◌, ◌%◌, ◌≤◌, ◌<◌}
use mathlib.Core.Path.{◌≡◌, refl, ap, ◌∙◌}
use mathlib.Core.Logic.{◌≢◌}
use mathlib.Core.List.{List, [], ◌∷◌, ◌++◌}
use mathlib.Core.Bool.{Bool, true, false, true≢false, false≢true}
use native.Mathlib.Nat.{div-add-mod', lt_of_mul-lt-mul_right, mul-le-mul_right, add-mul, one-mul}
use native.Mathlib.Numerals.{add-one}
use native.Mathlib.Omega.{arith}
use lib.Dec.{T, eqb}
use lib.ListN.{length, set, take, length-append}
use lib.Ieee.{Float}
use lib.Ieee.Scale.{finite}
use borrow.Author.Tests.{eqb-true, eqb-false, eq-eqb, ne_eqb}
use Rattle.answers.specs.Pick.{pick, both, either, pick_true, pick_false, pick_case}
use Rattle.answers.specs.Refusals.{if_refused}
use Rattle.floats.specs.Functions.{zero64}
use Rattle.folds.specs.Sums.{table, zeros, at, all_finite}

-- ---- choices

-- two answers by one test
pub pick_both : {A B : Type 0} (P : A → B → Type 0) (t : Bool) (x y : A) (x' y' : B) → (t ≡ true → P x x') → (t ≡ false → P y y') → P (pick t x y) (pick t x' y')
unfolding pick
pick_both P true x y x' y' f g = f refl
pick_both P false x y x' y' f g = g refl

-- a call that is refused, or not
pub if_refused_case : {A : Type 0} (P : A → Type 0) (n : ℕ) (x y : A) → ((n ≡ 0 → ⊥) → P x) → (n ≡ 0 → P y) → P (if_refused n x y)
if_refused_case P n x y p q = pick_case P (eqb n 0) y x (λ t. q (eqb-true n 0 t)) (λ t. p (eqb-false n 0 t))

-- a call that is not refused, and one that is
pub if_refused_none : {A : Type 0} (n : ℕ) (x y : A) → n ≡ 0 → if_refused n x y ≡ y
if_refused_none n x y z = pick_true (eqb n 0) y x (eq-eqb n 0 z)

pub if_refused_refused : {A : Type 0} (n : ℕ) (x y : A) → (n ≡ 0 → ⊥) → if_refused n x y ≡ x
if_refused_refused n x y r = pick_false (eqb n 0) y x (ne_eqb n 0 r)

-- the same call on two states
pub if_refused_both : {A B : Type 0} (P : A → B → Type 0) (n : ℕ) (x y : A) (x' y' : B) → P x x' → (n ≡ 0 → P y y') → P (if_refused n x y) (if_refused n x' y')
if_refused_both P n x y x' y' p q = pick_both P (eqb n 0) y x y' x' (λ t. q (eqb-true n 0 t)) (λ t. p)

-- ---- tests

pub is_true : (t : Bool) → T t → t ≡ true
is_true true h = refl
is_true false h = absurd h

pub holds : (t : Bool) → t ≡ true → T t
holds true h = tt
holds false h = absurd (false≢true h)

pub either_or : (a b : Bool) → (a ≡ false → b ≡ true) → either a b ≡ true
unfolding pick
either_or true b h = refl
either_or false b h = h refl

pub either_left : (a b : Bool) → either a b ≡ false → a ≡ false
unfolding pick
either_left true b h = h
either_left false b h = refl

pub either_right : (a b : Bool) → either a b ≡ false → b ≡ false
unfolding pick
either_right true b h = absurd (true≢false h)
either_right false b h = h

pub both_fails : (a b : Bool) → b ≡ false → both a b ≡ false
unfolding pick
both_fails true b h = h
both_fails false b h = refl

pub both_and : (a b : Bool) → a ≡ true → b ≡ true → both a b ≡ true
unfolding pick
both_and true b h k = k
both_and false b h k = h

pub both_left : (a b : Bool) → both a b ≡ true → a ≡ true
unfolding pick
both_left true b h = refl
both_left false b h = h

pub both_right : (a b : Bool) → both a b ≡ true → b ≡ true
unfolding pick
both_right true b h = h
both_right false b h = absurd (false≢true h)

-- ---- remainders: two numbers less than l apart stand at different places
pub other_slot : (j n l : ℕ) → j < n → n < j + l → j % l ≢ n % l
other_slot j n l h k e =
    let a : j / l * l + j % l ≡ j = div-add-mod' j l in
    let b : n / l * l + j % l ≡ n = ap (λ (z : ℕ). n / l * l + z) e ∙ div-add-mod' n l in
    let c : j / l < n / l = lt_of_mul-lt-mul_right l (omega arith) in
    let d : (j / l + 1) * l ≤ n / l * l = mul-le-mul_right l (omega arith) in
    let f : (j / l + 1) * l ≡ j / l * l + l = add-mul (j / l) 1 l ∙ ap (λ (z : ℕ). j / l * l + z) (one-mul l) in
    omega arith

-- ---- lists

-- the same value stored at the same place of two lists of one length
pub stored_alike : (a b : List Float) (i : ℕ) (x : Float) → length a ≡ length b → at (set a i x) i ≡ at (set b i x) i
stored_alike [] [] i x e = refl
stored_alike [] (c ∷ b) i x e = absurd (omega arith)
stored_alike (c ∷ a) [] i x e = absurd (omega arith)
stored_alike (c ∷ a) (d ∷ b) zero x e = refl
stored_alike (c ∷ a) (d ∷ b) (suc i) x e = stored_alike a b i x (omega arith)

-- the first n values of two lists that agree below n
pub take_alike : (a b : List Float) (n : ℕ) → length a ≡ length b → ((i : ℕ) → i < n → at a i ≡ at b i) → take n a ≡ take n b
take_alike [] [] n e h = refl
take_alike [] (c ∷ b) n e h = absurd (omega arith)
take_alike (c ∷ a) [] n e h = absurd (omega arith)
take_alike (c ∷ a) (d ∷ b) zero e h = refl
take_alike (c ∷ a) (d ∷ b) (suc n) e h =
    let p : c ≡ d = h 0 (omega arith) in
    let q : take n a ≡ take n b = take_alike a b n (omega arith) (λ i l. h (suc i) (omega arith)) in
    cc

-- ---- tables

pub length_table : (f : ℕ → Float) (n : ℕ) → length (table f n) ≡ n
unfolding table
length_table f zero = refl
length_table f (suc n) = length-append (table f n) (f n ∷ []) ∙ ap (λ (z : ℕ). z + 1) (length_table f n) ∙ add-one n

pub length_zeros : (n : ℕ) → length (zeros n) ≡ n
unfolding zeros
length_zeros n = length_table (λ i. zero64) n

pub table_alike : (f g : ℕ → Float) (n : ℕ) → ((i : ℕ) → i < n → f i ≡ g i) → table f n ≡ table g n
unfolding table
table_alike f g zero h = refl
table_alike f g (suc n) h = let a : table f n ≡ table g n = table_alike f g n (λ i l. h i (omega arith)) in let b : f n ≡ g n = h n (omega arith) in cc

-- a table of one value, from the front
pub table_front : (x : Float) (n : ℕ) → table (λ i. x) (suc n) ≡ x ∷ table (λ i. x) n
unfolding table
table_front x zero = refl
table_front x (suc n) = ap (λ (l : List Float). l ++ (x ∷ [])) (table_front x n)

-- ---- what holds of every value of a list

abbrev pub All : (Float → Type 0) → List Float → Type 0
All P [] = Unit {0}
All P (x ∷ xs) = P x × All P xs

pub all_append : (P : Float → Type 0) (xs ys : List Float) → All P xs → All P ys → All P (xs ++ ys)
all_append P [] ys h k = k
all_append P (x ∷ xs) ys h k = (h.0, all_append P xs ys h.1 k)

pub all_set : (P : Float → Type 0) (xs : List Float) (i : ℕ) (x : Float) → All P xs → P x → All P (set xs i x)
all_set P [] i x h k = h
all_set P (y ∷ xs) zero x h k = (k, h.1)
all_set P (y ∷ xs) (suc i) x h k = (h.0, all_set P xs i x h.1 k)

pub all_table : (P : Float → Type 0) (f : ℕ → Float) (n : ℕ) → ((i : ℕ) → i < n → P (f i)) → All P (table f n)
unfolding table
all_table P f zero h = tt
all_table P f (suc n) h = all_append P (table f n) (f n ∷ []) (all_table P f n (λ i l. h i (omega arith))) (h n (omega arith), tt)

pub all_zeros_lem : (P : Float → Type 0) (n : ℕ) → P zero64 → All P (zeros n)
unfolding zeros
all_zeros_lem P n h = all_table P (λ i. zero64) n (λ i l. h)

pub all_at : (P : Float → Type 0) (xs : List Float) (i : ℕ) → i < length xs → All P xs → P (at xs i)
all_at P [] i l h = absurd (omega arith)
all_at P (x ∷ xs) zero l h = h.0
all_at P (x ∷ xs) (suc i) l h = all_at P xs i (omega arith) h.1

-- ---- lists of finite values

pub all_finite_lem : (P : Float → Type 0) (xs : List Float) → ((x : Float) → P x → finite x ≡ true) → All P xs → all_finite xs ≡ true
unfolding all_finite
all_finite_lem P [] f h = refl
all_finite_lem P (x ∷ xs) f h = both_and (finite x) (all_finite xs) (f x h.0) (all_finite_lem P xs f h.1)

pub finite_append : (xs ys : List Float) → all_finite (xs ++ ys) ≡ both (all_finite xs) (all_finite ys)
unfolding all_finite pick
finite_append [] ys = refl
finite_append (x ∷ xs) ys = go (finite x) (finite_append xs ys)
  where
    go : (t : Bool) → all_finite (xs ++ ys) ≡ both (all_finite xs) (all_finite ys) → both t (all_finite (xs ++ ys)) ≡ both (both t (all_finite xs)) (all_finite ys)
    go true e = e
    go false e = refl
