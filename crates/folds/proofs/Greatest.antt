-- The coarse search finds the greatest value above 0, at its last index.
use Rattle.std.proofs.Common.{◌≡◌, ℕ, zero, suc, ◌+◌, ◌*◌, ◌<◌, ◌≤◌, Bool, true, false, ◌&&◌, eqb, ◌⊎◌, List, [], ◌∷◌, length, sym, refl, ap, ◌∙◌, subst, inl, inr, ⊎_elim, true≢false, lt_of_lt_of_le, not-suc-le-zero, mul-le-mul_right, lt_of_mul-lt-mul_right, mul-lt-mul_of_pos_right, zero-mul, mul_right_comm, arith, ltb-true, le-ltb, lt-ltb, eqb-true}
use mathlib.Core.Bool.{false≢true}
use lib.Ieee.{Float, nan, inf, fin, lt, eq, up, down}
use lib.Ieee.Fits.{down_pos}
use Rattle.answers.specs.Pick.{pick_case}
use Rattle.floats.specs.Functions.{zero64}
use Rattle.folds.specs.Sums.{at}
use Rattle.folds.specs.Search.{peak, down_from, search_down}
use Rattle.folds.specs.Greatest.{FindsGreatest}
use Rattle.folds.specs.declared.Peak.{Peak}

-- ---- the order of values that are not below 0

-- zero or above, infinity too
abbrev pub Positive : Float → Type 0
Positive nan = ⊥
Positive (inf s) = s ≡ false
Positive (fin s m e) = s ≡ false

-- a / d < b / e and b / e ≤ c / g give a / d < c / g, where all is multiplied out
cross : (a b c d e g : ℕ) → 0 < g → a * d < b * e → b * g ≤ c * d → a * g < c * e
cross a b c d e g h p q =
    let r : a * g * d < b * g * e = subst (λ (z : ℕ). z < b * g * e) (mul_right_comm a d g) (subst (λ (z : ℕ). a * d * g < z) (mul_right_comm b e g) (mul-lt-mul_of_pos_right p h)) in
    lt_of_mul-lt-mul_right d (subst (λ (z : ℕ). a * g * d < z) (mul_right_comm c d e) (lt_of_lt_of_le r (mul-le-mul_right e q)))

both_true : (a b : Bool) → (a && b) ≡ true → (a ≡ true) × (b ≡ true)
both_true true b e = (refl, e)
both_true false b e = absurd (false≢true e)

pub lt_trans : (x y z : Float) → Positive x → lt x y ≡ true → lt y z ≡ true → lt x z ≡ true
unfolding lt
lt_trans nan y z p h k = absurd p
lt_trans (inf true) y z p h k = absurd (true≢false p)
lt_trans (inf false) nan z p h k = absurd (false≢true h)
lt_trans (inf false) (inf t) z p h k = absurd (false≢true h)
lt_trans (inf false) (fin t n d) z p h k = absurd (false≢true h)
lt_trans (fin true m e) y z p h k = absurd (true≢false p)
lt_trans (fin false m e) nan z p h k = absurd (false≢true h)
lt_trans (fin false m e) (inf true) z p h k = absurd (false≢true h)
lt_trans (fin false m e) (inf false) nan p h k = absurd (false≢true k)
lt_trans (fin false m e) (inf false) (inf u) p h k = absurd (false≢true k)
lt_trans (fin false m e) (inf false) (fin u n d) p h k = absurd (false≢true k)
lt_trans (fin false m e) (fin true n d) z p h k = absurd (false≢true h)
lt_trans (fin false m e) (fin false n d) nan p h k = absurd (false≢true k)
lt_trans (fin false m e) (fin false n d) (inf u) p h k = k
lt_trans (fin false m e) (fin false n d) (fin true l g) p h k = absurd (false≢true k)
lt_trans (fin false m e) (fin false n d) (fin false l g) p h k =
    let q = ltb-true (n * up d * down g) (l * up g * down d) k in
    lt-ltb _ _ (cross (m * up e) (n * up d) (l * up g) (down d) (down e) (down g) (down_pos g) (ltb-true _ _ h) (omega arith))

-- what equals a larger value is larger
lt_eq : (x y z : Float) → Positive x → lt x y ≡ true → eq z y ≡ true → lt x z ≡ true
unfolding lt eq
lt_eq nan y z p h k = absurd p
lt_eq (inf true) y z p h k = absurd (true≢false p)
lt_eq (inf false) nan z p h k = absurd (false≢true h)
lt_eq (inf false) (inf t) z p h k = absurd (false≢true h)
lt_eq (inf false) (fin t n d) z p h k = absurd (false≢true h)
lt_eq (fin true m e) y z p h k = absurd (true≢false p)
lt_eq (fin false m e) y nan p h k = absurd (false≢true k)
lt_eq (fin false m e) nan (inf u) p h k = absurd (false≢true h)
lt_eq (fin false m e) (inf true) (inf u) p h k = absurd (false≢true h)
lt_eq (fin false m e) (inf false) (inf true) p h k = absurd (false≢true k)
lt_eq (fin false m e) (inf false) (inf false) p h k = refl
lt_eq (fin false m e) (fin t n d) (inf u) p h k = absurd (false≢true k)
lt_eq (fin false m e) nan (fin u l g) p h k = absurd (false≢true h)
lt_eq (fin false m e) (inf t) (fin u l g) p h k = absurd (false≢true k)
lt_eq (fin false m e) (fin true n d) (fin u l g) p h k = absurd (false≢true h)
lt_eq (fin false m e) (fin false n d) (fin false l g) p h k =
    let q : l * up g * down d ≡ n * up d * down g = eqb-true _ _ (both_true (eqb (l * up g * down d) (n * up d * down g)) _ k).0 in
    lt-ltb _ _ (cross (m * up e) (n * up d) (l * up g) (down d) (down e) (down g) (down_pos g) (ltb-true _ _ h) (omega arith))
lt_eq (fin false m e) (fin false n d) (fin true l g) p h k =
    let q = both_true (eqb (l * up g * down d) (n * up d * down g)) _ k in
    let r : l * up g * down d ≡ n * up d * down g = eqb-true _ _ q.0 in
    let s : l * up g * down d ≡ 0 = eqb-true _ _ q.1 in
    let t = cross (m * up e) (n * up d) 0 (down d) (down e) (down g) (down_pos g) (ltb-true _ _ h) (omega (arith, zero-mul (down d))) in
    absurd (omega (arith, zero-mul (down e)))

-- nothing is below itself
pub lt_self : (x : Float) → lt x x ≡ false
unfolding lt
lt_self nan = refl
lt_self (inf true) = refl
lt_self (inf false) = refl
lt_self (fin false m e) = let n = m * up e * down e in le-ltb n n (omega arith)
lt_self (fin true m e) = let n = m * up e * down e in le-ltb n n (omega arith)

pub above_zero : (x : Float) → lt zero64 x ≡ true → Positive x
unfolding lt
above_zero nan h = false≢true h
above_zero (inf true) h = sym h
above_zero (inf false) h = refl
above_zero (fin true m e) h = sym h
above_zero (fin false m e) h = refl

-- ---- the search

pub decided : (b : Bool) → (b ≡ true → ⊥) → b ≡ false
decided true h = absurd (h refl)
decided false h = refl

pub refuted : (b : Bool) → b ≡ false → b ≡ true → ⊥
refuted b p q = false≢true (sym p ∙ q)

-- the first value and the others; the others from the second on; those past one of the others
first_and : (P : Float → Type 0) (x : Float) (xs : List Float) → P x → ((i : ℕ) → i < length xs → P (at xs i)) → (i : ℕ) → i < length (x ∷ xs) → P (at (x ∷ xs) i)
first_and P x xs a b zero h = a
first_and P x xs a b (suc i) h = b i (omega arith)

others : (P : Float → Type 0) (x : Float) (xs : List Float) → ((i : ℕ) → i < length xs → P (at xs i)) → (i : ℕ) → 0 < i → i < length (x ∷ xs) → P (at (x ∷ xs) i)
others P x xs b zero g h = absurd (not-suc-le-zero g)
others P x xs b (suc i) g h = b i (omega arith)

past : (P : Float → Type 0) (x : Float) (xs : List Float) (j : ℕ) → ((i : ℕ) → j < i → i < length xs → P (at xs i)) → (i : ℕ) → suc j < i → i < length (x ∷ xs) → P (at (x ∷ xs) i)
past P x xs j b zero g h = absurd (not-suc-le-zero g)
past P x xs j b (suc i) g h = b i (omega arith) (omega arith)

-- what is found above 0 among xs, which stand from index k on
record Among (xs : List Float) (k : ℕ) (p : Peak) : Type 0 where
  index : ℕ
  inside : index < length xs
  place : p.place ≡ k + index
  value : p.value ≡ at xs index
  above : lt zero64 p.value ≡ true
  last : (i : ℕ) → index < i → i < length xs → eq (at xs i) p.value ≡ false

record Sought (xs : List Float) (k : ℕ) (p : Peak) : Type 0 where
  positive : Positive p.value
  unexceeded : (i : ℕ) → i < length xs → lt p.value (at xs i) ≡ false
  found : (p ≡ peak 0 zero64) ⊎ Among xs k p

module _ (x : Float) (xs : List Float) (k : ℕ) (p : Peak) (s : Sought xs (suc k) p) where
  taken : lt p.value x ≡ true → Sought (x ∷ xs) k (peak k x)
  taken h =
      let larger : lt zero64 x ≡ true =
      ⊎_elim
      (λ (e : p ≡ peak 0 zero64). subst (λ (q : Peak). lt q.value x ≡ true) e h)
      (λ (a : Among xs (suc k) p). lt_trans zero64 p.value x refl a.above h)
      s.found in
      record {
        positive = above_zero x larger;
        unexceeded = first_and (λ (y : Float). lt x y ≡ false) x xs (lt_self x) (λ i g. decided _ (λ t. refuted _ (s.unexceeded i g) (lt_trans p.value x (at xs i) s.positive h t)));
        found = inr (record {
          index = 0;
          inside = omega arith;
          place = omega arith;
          value = refl;
          above = larger;
          last = others (λ (y : Float). eq y x ≡ false) x xs (λ i g. decided _ (λ t. refuted _ (s.unexceeded i g) (lt_eq p.value x (at xs i) s.positive h t)));
        });
      }

  kept : lt p.value x ≡ false → Sought (x ∷ xs) k p
  kept h =
      record {
        positive = s.positive;
        unexceeded = first_and (λ (y : Float). lt p.value y ≡ false) x xs h s.unexceeded;
        found =
            ⊎_elim
            (λ (e : p ≡ peak 0 zero64). inl e)
            (λ (a : Among xs (suc k) p). inr (record {
              index = suc a.index;
              inside = omega (arith, a.inside);
              place = omega (arith, a.place);
              value = a.value;
              above = a.above;
              last = past (λ (y : Float). eq y p.value ≡ false) x xs a.index a.last;
            }))
            s.found;
      }

sought : (xs : List Float) (k : ℕ) → Sought xs k (down_from xs k)
unfolding down_from
sought [] k = record { positive = refl; unexceeded = λ i h. absurd (not-suc-le-zero h); found = inl refl }
sought (x ∷ xs) k =
    let p = down_from xs (suc k) in
    pick_case (λ (q : Peak). Sought (x ∷ xs) k q) (lt p.value x) (peak k x) p (taken x xs k p (sought xs (suc k))) (kept x xs k p (sought xs (suc k)))

pub finds_greatest : (xs : List Float) → FindsGreatest xs
unfolding search_down
finds_greatest xs =
    let s = sought xs 0 in
    let p = down_from xs 0 in
    ⊎_elim
    (λ (e : p ≡ peak 0 zero64). inl (record { zero = e; unexceeded = subst (λ (q : Peak). (i : ℕ) → i < length xs → lt q.value (at xs i) ≡ false) e s.unexceeded }))
    (λ (a : Among xs 0 p).
    let here : p.place ≡ a.index = omega (arith, a.place) in
    inr (record {
      inside = omega (arith, a.inside);
      value = a.value ∙ ap (at xs) (sym here);
      above = a.above;
      unexceeded = s.unexceeded;
      last = λ i g h. a.last i (omega arith) h;
    }))
    s.found
