-- The envelope holds, at each kept bin, the level of exactly that block of the far stream.
use Prim.Native.Nat.{ℕ, zero, suc, ◌+◌, ◌*◌, ◌/◌, ◌%◌, ◌≤◌, ◌<◌}
use mathlib.Core.Path.{◌≡◌, refl, sym, ap, ◌∙◌, subst}
use mathlib.Core.List.{List, [], ◌∷◌, ◌++◌, append_assoc}
use mathlib.Core.Logic.{◌≢◌, ⊎_elim}
use native.Mathlib.Nat.{div-add-mod', mod-lt, add-mul, one-mul, mul-le-mul_right, lt_of_mul-lt-mul_right, eq-or-lt_of_le}
use native.Mathlib.Numerals.{add-one}
use native.Mathlib.Omega.{arith}
use lib.Dec.{eqb}
use lib.ListN.{length, set, length-append, length-set, get_or-append}
use lib.Seq.{get_or_at, get_or-set_same, get_or-set_other}
use lib.Ieee.{Float, nan}
use borrow.Author.Tests.{eqb-true, eqb-false}
use Rattle.answers.specs.Pick.{pick_case}
use Rattle.floats.specs.Functions.{magnitude}
use Rattle.folds.specs.Sums.{upto, at}
use Rattle.scan.specs.Bins.{envelope_len}
use Rattle.scan.specs.State.{new_far}
use Rattle.scan.specs.Blocks.{Heard, hear, hear_all, level_of, summed}
use Rattle.scan.specs.declared.Geometry.{Geometry}
use Rattle.scan_push.specs.Envelope.{level_of_block, HoldsLevels}

-- ---- two numbers less than l apart have two remainders

other_slot : (j n l : ℕ) → j < n → n < j + l → j % l ≢ n % l
other_slot j n l h k e =
    let a : j / l * l + j % l ≡ j = div-add-mod' j l in
    let b : n / l * l + j % l ≡ n = ap (λ (z : ℕ). n / l * l + z) e ∙ div-add-mod' n l in
    let c : j / l < n / l = lt_of_mul-lt-mul_right l (omega arith) in
    let d : (j / l + 1) * l ≤ n / l * l = mul-le-mul_right l (omega arith) in
    let f : (j / l + 1) * l ≡ j / l * l + l = add-mul (j / l) 1 l ∙ ap (λ (z : ℕ). j / l * l + z) (one-mul l) in
    omega arith

-- ---- a stream with one sample more

earlier_at : (ys : List Float) (x : Float) (i : ℕ) → i < length ys → at (ys ++ (x ∷ [])) i ≡ at ys i
earlier_at ys x i h = get_or-append ys (x ∷ []) nan i h

last_at : (ys : List Float) (x : Float) (n : ℕ) → length ys ≡ n → at (ys ++ (x ∷ [])) n ≡ x
last_at ys x n h = get_or_at ys x [] nan n h

-- sums of the first n terms from m on, where one sample more changes none of them
same_sum : (ys : List Float) (x : Float) (m n : ℕ) → m + n ≤ length ys → upto (λ i. magnitude (at (ys ++ (x ∷ [])) (m + i))) n ≡ upto (λ i. magnitude (at ys (m + i))) n
unfolding upto
same_sum ys x m zero h = refl
same_sum ys x m (suc n) h =
    let a = same_sum ys x m n (omega arith) in
    let b : at (ys ++ (x ∷ [])) (m + n) ≡ at ys (m + n) = earlier_at ys x (m + n) (omega arith) in
    rw (a, b)

-- one sample more completes the sum of a block
pub one_more : (ys : List Float) (x : Float) (m n : ℕ) (s : Float) → length ys ≡ m + n → s ≡ upto (λ i. magnitude (at ys (m + i))) n
    → summed s x ≡ upto (λ i. magnitude (at (ys ++ (x ∷ [])) (m + i))) (n + 1)
unfolding upto
one_more ys x m n s l e =
    let a = same_sum ys x m n (omega arith) in
    let b : at (ys ++ (x ∷ [])) (m + n) ≡ x = last_at ys x (m + n) l in
    rw (add-one, a, b, e)

pub earlier_block : (g : Geometry) (ys : List Float) (x : Float) (j next : ℕ) → j < next → next * g.decimation ≤ length ys → level_of_block g j ys ≡ level_of_block g j (ys ++ (x ∷ []))
earlier_block g ys x j next h l =
    let m : (j + 1) * g.decimation ≤ next * g.decimation = mul-le-mul_right g.decimation (omega arith) in
    let k : (j + 1) * g.decimation ≡ j * g.decimation + g.decimation = add-mul j 1 g.decimation ∙ ap (λ (z : ℕ). j * g.decimation + z) (one-mul g.decimation) in
    ap (level_of g) (sym (same_sum ys x (j * g.decimation) g.decimation (omega arith)))

pub length_more : (ys : List Float) (x : Float) → length (ys ++ (x ∷ [])) ≡ length ys + 1
length_more ys x = length-append ys (x ∷ [])

module _ (slack : ℕ) (g : Geometry) (some : 0 < g.decimation) (room : 0 < envelope_len slack g) where
  -- after the samples ys the far side is h
  record Kept (ys : List Float) (h : Heard) : Type 0 where
    pub fit : length h.envelope ≡ envelope_len slack g
    pub placed : length ys ≡ h.far.next * g.decimation + h.far.count
    pub partial : h.far.count < g.decimation
    pub sum : h.far.sum ≡ upto (λ i. magnitude (at ys (h.far.next * g.decimation + i))) h.far.count
    pub holds : (j : ℕ) → j < h.far.next → h.far.next ≤ j + envelope_len slack g → at h.envelope (j % envelope_len slack g) ≡ level_of_block g j ys

  hears : (ys : List Float) (h : Heard) (x : Float) → Kept ys h → Kept (ys ++ (x ∷ [])) (hear slack g h x)
  unfolding hear upto
  hears ys h x k =
      let next = h.far.next in
      let count = h.far.count in
      let L = envelope_len slack g in
      let level = level_of g (summed h.far.sum x) in
      let more = length_more ys x in
      let total = one_more ys x (next * g.decimation) count h.far.sum k.placed k.sum in
      let rows : (next + 1) * g.decimation ≡ next * g.decimation + g.decimation = add-mul next 1 g.decimation ∙ ap (λ (z : ℕ). next * g.decimation + z) (one-mul g.decimation) in
      pick_case (λ (z : Heard). Kept (ys ++ (x ∷ [])) z) (eqb (count + 1) g.decimation) _ _
      (λ t. let e : count + 1 ≡ g.decimation = eqb-true (count + 1) g.decimation t in
      record {
        fit = simp length-set k.fit;
        placed = omega (arith, more, k.placed, rows);
        partial = some;
        sum = refl;
        holds = λ j below kept.
            ⊎_elim
            (λ (same : j ≡ next).
            ap (λ (z : ℕ). at (set h.envelope (next % L) level) (z % L)) same
            ∙ get_or-set_same h.envelope (next % L) level nan (subst (λ (z : ℕ). next % L < z) (sym k.fit) (mod-lt next room))
            ∙ ap (level_of g) (total ∙ ap (upto (λ i. magnitude (at (ys ++ (x ∷ [])) (next * g.decimation + i)))) e)
            ∙ ap (λ (z : ℕ). level_of_block g z (ys ++ (x ∷ []))) (sym same))
            (λ (less : j < next).
            get_or-set_other h.envelope (next % L) (j % L) level nan (other_slot j next L less (omega arith))
            ∙ k.holds j less (omega arith)
            ∙ earlier_block g ys x j next less (omega (arith, k.placed)))
            (eq-or-lt_of_le (omega arith));
      })
      (λ t. record {
        fit = k.fit;
        placed = omega (arith, more, k.placed);
        partial = omega (arith, k.partial, eqb-false (count + 1) g.decimation t);
        sum = total;
        holds = λ j below kept. k.holds j below kept ∙ earlier_block g ys x j next below (omega (arith, k.placed));
      })

  hears_all : (ys xs : List Float) (h : Heard) → Kept ys h → Kept (ys ++ xs) (hear_all slack g h xs)
  unfolding hear_all
  hears_all ys [] h k = subst (λ (z : List Float). Kept z h) (sym (append_nil ys)) k
    where
      append_nil : (l : List Float) → l ++ [] ≡ l
      append_nil [] = refl
      append_nil (y ∷ l) = ap (λ (z : List Float). y ∷ z) (append_nil l)
  hears_all ys (x ∷ xs) h k = subst (λ (z : List Float). Kept z (hear_all slack g (hear slack g h x) xs)) (append_assoc ys (x ∷ []) xs) (hears_all (ys ++ (x ∷ [])) xs (hear slack g h x) (hears ys h x k))

  begins : (envelope : List Float) → length envelope ≡ envelope_len slack g → Kept [] (record { far = new_far; envelope = envelope })
  unfolding upto
  begins envelope l = record { fit = l; placed = omega arith; partial = some; sum = refl; holds = λ j below kept. absurd (omega arith) }

pub holds_levels : HoldsLevels
holds_levels slack g envelope stream j some room l below kept = (hears_all slack g some room [] stream _ (begins slack g some room envelope l)).holds j below kept

-- pushes in turn are one push of all their samples
pub pushes_join : (slack : ℕ) (g : Geometry) (h : Heard) (xs ys : List Float) → hear_all slack g h (xs ++ ys) ≡ hear_all slack g (hear_all slack g h xs) ys
unfolding hear_all
pushes_join slack g h [] ys = refl
pushes_join slack g h (x ∷ xs) ys = pushes_join slack g (hear slack g h x) xs ys
