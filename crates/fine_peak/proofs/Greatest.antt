-- The crest of finite entries stands first at the first of the greatest heights. Heights are compared as fractions of whole numbers.
use Rattle.std.proofs.Common.{◌≡◌, ℕ, zero, suc, ◌*◌, ◌<◌, ◌≤◌, Bool, true, false, ◌&&◌, ◌⊎◌, List, [], ◌∷◌, length, take, ℤ, pos, sym, refl, ap, ◌∙◌, subst, inl, inr, ⊎_elim, le_refl, le_of_suc-le-suc, not-suc-le-zero, le_of_lt, eq-or-lt_of_le, zero-mul, arith, ltb-false, ltb-true, le-ltb, lt-ltb, eq-eqb}
use mathlib.Core.Bool.{false≢true}
use lib.Ieee.{Float, nan, inf, fin, up, down, lt, eq}
use lib.Ieee.Fits.{down_pos}
use lib.Ieee.Positive.{through}
use lib.Ieee.Scale.{finite}
use Rattle.answers.specs.Pick.{pick, pick_case}
use Rattle.floats.specs.Functions.{zero64, magnitude}
use Rattle.floats.proofs.Compare.{le_or_lt}
use Rattle.folds.specs.Sums.{all_finite, at}
use Rattle.folds.specs.Search.{peak, meet, search_up}
use Rattle.folds.specs.declared.Peak.{Peak}
use Rattle.fine.specs.State.{positions}
use Rattle.fine.proofs.Laws.{both_hold}
use Rattle.fine_peak.specs.declared.Crest.{Crest}
use Rattle.fine_peak.specs.Peak.{tie, crest, crest_of, height, heights_of}
use Rattle.fine_peak.specs.Greatest.{FirstGreatest, first_of}

-- ---- heights: finite, and not below +0

pub data Height : Float → Type 0 where
  at_height : (m : ℕ) (e : ℤ) → Height (fin false m e)

pub is_height : (x : Float) → finite x ≡ true → Height (magnitude x)
unfolding magnitude
is_height nan e = absurd (false≢true e)
is_height (inf s) e = absurd (false≢true e)
is_height (fin s m e) h = at_height m e

-- a / p ≤ b / q < c / r
mixed : (a b c p q r : ℕ) → 0 < p → a * q ≤ b * p → b * r < c * q → a * r < c * p
mixed a b c p q r P h l = elim (le_or_lt (c * p) (a * r)) [
  | inl g ↦ absurd (omega (arith, through c a b r p q P g h))
  | inr g ↦ g
]

-- x is not above y, which is below z: so x is below z
below : (x y z : Float) → Height x → Height y → Height z → lt y x ≡ false → lt y z ≡ true → lt x z ≡ true
unfolding lt
below x y z (at_height a e) (at_height b f) (at_height c g) h l =
    lt-ltb _ _ (mixed (a * up e) (b * up f) (c * up g) (down e) (down f) (down g) (down_pos e) (ltb-false _ _ h) (ltb-true _ _ l))

not_above : (x z : Float) → Height x → Height z → lt x z ≡ true → lt z x ≡ false
unfolding lt
not_above x z (at_height a e) (at_height c g) h =
    le-ltb (c * up g * down e) (a * up e * down g) (le_of_lt (ltb-true (a * up e * down g) (c * up g * down e) h))

not_above_itself : (x : Float) → Height x → lt x x ≡ false
unfolding lt
not_above_itself x (at_height a e) = le-ltb (a * up e * down e) (a * up e * down e) (le_refl (a * up e * down e))

pub equals_itself : (x : Float) → Height x → eq x x ≡ true
unfolding eq
equals_itself x (at_height a e) = ap (λ (b : Bool). b && true) (eq-eqb (a * up e * down e) (a * up e * down e) refl)

-- not above +0: so it is 0
pub is_zero : (x : Float) → Height x → lt zero64 x ≡ false → eq zero64 x ≡ true
unfolding lt eq
is_zero x (at_height a e) h =
    let l = ltb-false (0 * down e) (a * up e * 1) h in
    ap (λ (b : Bool). b && true) (eq-eqb (0 * down e) (a * up e * 1) (omega (arith, zero-mul (down e))))

-- ---- the search

-- as FirstGreatest, but for a search that passed nothing yet
record Passed (t : ℕ → Float) (n : ℕ) (p : Peak) : Type 0 where
  is : Height p.value
  stands : 0 < n → eq p.value (t p.place) ≡ true
  within : 0 < n → p.place < n
  start : n ≡ 0 → p ≡ peak 0 zero64
  greatest : (k : ℕ) → k < n → lt p.value (t k) ≡ false
  first : (k : ℕ) → k < p.place → lt (t k) p.value ≡ true

-- what holds of each index below n, and of n
each : (P : ℕ → Type 0) (n : ℕ) → ((k : ℕ) → k < n → P k) → P n → (k : ℕ) → k < suc n → P k
each P n h x k l = ⊎_elim (λ (e : k ≡ n). subst P (sym e) x) (λ (g : k < n). h k g) (eq-or-lt_of_le (le_of_suc-le-suc l))

module _ (t : ℕ → Float) (n : ℕ) (p : Peak) (h : Passed t n p) (all : (k : ℕ) → k < suc n → Height (t k)) where
  here : Height (t n)
  here = all n (omega arith)

  -- a greater one takes its place
  replaced : lt p.value (t n) ≡ true → Passed t (suc n) (peak n (t n))
  replaced l =
      let smaller : (k : ℕ) → k < n → lt (t k) (t n) ≡ true = λ k g. below (t k) p.value (t n) (all k (omega arith)) h.is here (h.greatest k g) l in
      record {
        is = here;
        stands = λ z. equals_itself (t n) here;
        within = λ z. omega arith;
        start = λ z. absurd (omega (arith, z));
        greatest = each (λ k. lt (t n) (t k) ≡ false) n (λ k g. not_above (t k) (t n) (all k (omega arith)) here (smaller k g)) (not_above_itself (t n) here);
        first = smaller;
      }

  kept : lt p.value (t n) ≡ false → Passed t (suc n) p
  kept l =
      record {
        is = h.is;
        stands = λ z. held (le_or_lt n 0);
        within = λ z. inside (le_or_lt n 0);
        start = λ z. absurd (omega (arith, z));
        greatest = each (λ k. lt p.value (t k) ≡ false) n h.greatest l;
        first = h.first;
      }
    where
      none : n ≤ 0 → n ≡ 0
      none g = omega arith

      held : (n ≤ 0) ⊎ (0 < n) → eq p.value (t p.place) ≡ true
      held (inl g) =
          let e = h.start (none g) in
          let z : lt zero64 (t n) ≡ false = rw e at l in
          let w : eq zero64 (t n) ≡ true = is_zero (t n) here z in
          rw e (rw (none g) at w)
      held (inr g) = h.stands g

      inside : (n ≤ 0) ⊎ (0 < n) → p.place < suc n
      inside (inl g) = rw (h.start (none g)) (omega arith)
      inside (inr g) = omega (arith, h.within g)

searched : (t : ℕ → Float) (n : ℕ) → ((k : ℕ) → k < n → Height (t k)) → Passed t n (search_up t n)
unfolding search_up
searched t zero all =
    record {
      is = at_height 0 (pos 0);
      stands = λ z. absurd (omega (arith, z));
      within = λ z. absurd (omega (arith, z));
      start = λ z. refl;
      greatest = λ k g. absurd (not-suc-le-zero g);
      first = λ k g. absurd (not-suc-le-zero g);
    }
searched t (suc n) all =
    let h = searched t n (λ k g. all k (omega arith)) in
    pick_case (Passed t (suc n)) (lt (search_up t n).value (t n)) _ _ (replaced t n _ h all) (kept t n _ h all)

-- ---- the peak of a correlation

pub finite_at : (xs : List Float) (n k : ℕ) → n ≤ length xs → all_finite (take n xs) ≡ true → k < n → finite (at xs k) ≡ true
unfolding all_finite
finite_at xs zero k l e h = absurd (not-suc-le-zero h)
finite_at [] (suc n) k l e h = absurd (not-suc-le-zero l)
finite_at (x ∷ xs) (suc n) zero l e h = (both_hold _ _ e).0
finite_at (x ∷ xs) (suc n) (suc k) l e h = finite_at xs n k (le_of_suc-le-suc l) (both_hold _ _ e).1 (le_of_suc-le-suc h)

-- a crest's first position is what the search with strict > finds
module _ (c : Crest) (k : ℕ) (x : Float) where
  tie_by : (greater equal : Bool) → first_of (pick greater (crest (positions k k) x) (pick equal (crest (positions c.places.first k) c.value) c)) ≡ pick greater (peak k x) (first_of c)
  unfolding pick
  tie_by true equal = refl
  tie_by false true = refl
  tie_by false false = refl

  tie_first : first_of (tie c k x) ≡ meet (first_of c) k x
  tie_first = tie_by (lt c.value x) (eq c.value x)

pub crest_first : (t : ℕ → Float) (n : ℕ) → first_of (crest_of t n) ≡ search_up t n
unfolding crest_of search_up
crest_first t zero = refl
crest_first t (suc n) = tie_first (crest_of t n) n (t n) ∙ ap (λ (p : Peak). meet p n (t n)) (crest_first t n)

-- the first position is the smallest k of the greatest absolute value, and nothing exceeds it
pub first_greatest : (correlation : List Float) (n : ℕ) → 0 < n → n ≤ length correlation → all_finite (take n correlation) ≡ true
    → FirstGreatest (height correlation) n (first_of (heights_of correlation n).crest)
unfolding heights_of
first_greatest correlation n z l e =
    let h = searched (height correlation) n (λ k g. is_height (at correlation k) (finite_at correlation n k l e g)) in
    subst (FirstGreatest (height correlation) n) (sym (crest_first (height correlation) n))
    (record { within = h.within z; stands = h.stands z; greatest = h.greatest; first = h.first })
