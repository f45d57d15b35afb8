-- The crest of finite entries stands last at the last of the greatest heights, and first and last tell a tie. With all zeros they are 0 and span.
use Rattle.std.proofs.Common.{◌≡◌, ℕ, zero, suc, ◌+◌, ◌*◌, ◌<◌, ◌≤◌, Bool, true, false, ◌&&◌, ◌⊎◌, List, length, take, pos, sym, refl, ap, ◌∙◌, subst, inl, inr, ⊎_elim, true≢false, le_of_suc-le-suc, not-suc-le-zero, eq-or-lt_of_le, add-one, arith, ltb-false, ltb-true, le-ltb, lt-ltb, eqb-true}
use mathlib.Core.Bool.{false≢true}
use lib.Ieee.{Float, nan, inf, fin, up, down, lt, eq}
use borrow.Author.Tests.{eqb-false}
use Rattle.answers.specs.Pick.{pick_case, pick_true, pick_false}
use Rattle.floats.specs.Functions.{zero64, magnitude}
use Rattle.floats.proofs.Compare.{le_or_lt}
use Rattle.folds.specs.Sums.{all_finite, at}
use Rattle.fine.specs.State.{positions}
use Rattle.fine_peak.specs.declared.Crest.{Crest}
use Rattle.fine_peak.specs.Peak.{tie, crest, crest_of, height, heights_of}
use Rattle.fine_peak.specs.Greatest.{LastGreatest, TellsTies, last_of}
use Rattle.fine_peak.proofs.Greatest.{Height, at_height, is_height, equals_itself, is_zero, finite_at, first_greatest}

-- ---- two heights

unequal : (b : Bool) → (b && true) ≡ false → b ≡ false
unequal true e = e
unequal false e = refl

equal : (b : Bool) → (b && true) ≡ true → b ≡ true
equal true e = refl
equal false e = e

-- neither above nor equal: so below
lower_than : (x y : Float) → Height x → Height y → lt x y ≡ false → eq x y ≡ false → lt y x ≡ true
unfolding lt eq
lower_than x y (at_height a e) (at_height b f) l n =
    let h = ltb-false (a * up e * down f) (b * up f * down e) l in
    let d = eqb-false (a * up e * down f) (b * up f * down e) (unequal _ n) in
    lt-ltb (b * up f * down e) (a * up e * down f) (omega (arith, h, d))

-- what is below does not equal
never_both : (x y : Float) → Height x → Height y → lt x y ≡ true → eq y x ≡ true → ⊥
unfolding lt eq
never_both x y (at_height a e) (at_height b f) l q =
    let h = ltb-true (a * up e * down f) (b * up f * down e) l in
    let s = eqb-true (b * up f * down e) (a * up e * down f) (equal _ q) in
    omega (arith, h, s)

-- ---- the search

-- as LastGreatest, but for a search that passed nothing yet
record Passed (t : ℕ → Float) (n : ℕ) (c : Crest) : Type 0 where
  is : Height c.value
  start : n ≡ 0 → c.value ≡ zero64
  within : 0 < n → c.places.last < n
  stands : 0 < n → eq c.value (t c.places.last) ≡ true
  last : (k : ℕ) → c.places.last < k → k < n → lt (t k) c.value ≡ true

module _ (t : ℕ → Float) (n : ℕ) (c : Crest) (h : Passed t n c) (here : Height (t n)) where
  raised : lt c.value (t n) ≡ true → Passed t (suc n) (crest (positions n n) (t n))
  raised l =
      record {
        is = here;
        start = λ z. absurd (omega (arith, z));
        within = λ z. omega arith;
        stands = λ z. equals_itself (t n) here;
        last = λ k g m. absurd (omega (arith, g, m));
      }

  tied : eq c.value (t n) ≡ true → Passed t (suc n) (crest (positions c.places.first n) c.value)
  tied e =
      record {
        is = h.is;
        start = λ z. absurd (omega (arith, z));
        within = λ z. omega arith;
        stands = λ z. e;
        last = λ k g m. absurd (omega (arith, g, m));
      }

  kept : lt c.value (t n) ≡ false → eq c.value (t n) ≡ false → Passed t (suc n) c
  kept l e =
      record {
        is = h.is;
        start = λ z. absurd (omega (arith, z));
        within = λ z. omega (arith, h.within some);
        stands = λ z. h.stands some;
        last = λ k g m. ⊎_elim (λ (q : k ≡ n). subst (λ (j : ℕ). lt (t j) c.value ≡ true) (sym q) (lower_than c.value (t n) h.is here l e)) (λ (q : k < n). h.last k g q) (eq-or-lt_of_le (le_of_suc-le-suc m));
      }
    where
      -- a height that is first met is 0 or above
      not_none : (n ≤ 0) ⊎ (0 < n) → 0 < n
      not_none (inl g) =
          let none : n ≡ 0 = omega arith in
          let v = h.start none in
          let z : lt zero64 (t n) ≡ false = rw v at l in
          let w : eq zero64 (t n) ≡ false = rw v at e in
          absurd (true≢false (sym (is_zero (t n) here z) ∙ w))
      not_none (inr g) = g

      some : 0 < n
      some = not_none (le_or_lt n 0)

searched : (t : ℕ → Float) (n : ℕ) → ((k : ℕ) → k < n → Height (t k)) → Passed t n (crest_of t n)
unfolding crest_of
searched t zero all =
    record {
      is = at_height 0 (pos 0);
      start = λ z. refl;
      within = λ z. absurd (omega (arith, z));
      stands = λ z. absurd (omega (arith, z));
      last = λ k g m. absurd (not-suc-le-zero m);
    }
searched t (suc n) all =
    let h = searched t n (λ k g. all k (omega arith)) in
    let here = all n (omega arith) in
    pick_case (Passed t (suc n)) (lt (crest_of t n).value (t n)) _ _ (raised t n _ h here)
    (λ l. pick_case (Passed t (suc n)) (eq (crest_of t n).value (t n)) _ _ (tied t n _ h here) (kept t n _ h here l))

-- ---- the crest of a correlation

module _ (correlation : List Float) (n : ℕ) (z : 0 < n) (l : n ≤ length correlation) (e : all_finite (take n correlation) ≡ true) where
  heights : (k : ℕ) → k < n → Height (height correlation k)
  heights k g = is_height (at correlation k) (finite_at correlation n k l e g)

  -- the last position is the largest k of the greatest absolute value
  pub last_greatest : LastGreatest (height correlation) n (last_of (heights_of correlation n).crest)
  unfolding heights_of
  last_greatest =
      let h = searched (height correlation) n heights in
      record { within = h.within z; stands = h.stands z; greatest = (first_greatest correlation n z l e).greatest; last = h.last }

  -- what holds the greatest value stands neither before the first position nor behind the last
  module _ (k : ℕ) (g : k < n) (s : eq (heights_of correlation n).crest.value (height correlation k) ≡ true) where
    value : Height (heights_of correlation n).crest.value
    unfolding heights_of
    value = (searched (height correlation) n heights).is

    from_first : (heights_of correlation n).crest.places.first ≤ k
    from_first = ⊎_elim (λ (a : (heights_of correlation n).crest.places.first ≤ k). a) (λ (b : k < (heights_of correlation n).crest.places.first). absurd (never_both _ _ (heights k g) value ((first_greatest correlation n z l e).first k b) s)) (le_or_lt _ _)

    to_last : k ≤ (heights_of correlation n).crest.places.last
    to_last = ⊎_elim (λ (a : k ≤ (heights_of correlation n).crest.places.last). a) (λ (b : (heights_of correlation n).crest.places.last < k). absurd (never_both _ _ (heights k g) value (last_greatest.last k b g) s)) (le_or_lt _ _)

  -- first and last differ exactly if two positions hold the greatest value
  pub tie_told : TellsTies (height correlation) n (heights_of correlation n).crest
  tie_told =
      let first = first_greatest correlation n z l e in
      let between = from_first (heights_of correlation n).crest.places.last last_greatest.within last_greatest.stands in
      record {
        told = λ d. record { one = _; other = _; apart = ⊎_elim (λ q. absurd (d q)) (λ q. q) (eq-or-lt_of_le between); within = last_greatest.within; stands = first.stands; again = last_greatest.stands };
        tells = λ w q.
            let a = from_first w.one (omega (arith, w.apart, w.within)) w.stands in
            let b = to_last w.other w.within w.again in
            omega (arith, a, b, w.apart, q);
      }

-- ---- with all zeros the first is 0 and the last is span

zero_not_above : (x : Float) → eq x zero64 ≡ true → lt zero64 (magnitude x) ≡ false
unfolding eq lt magnitude
zero_not_above nan e = absurd (false≢true e)
zero_not_above (inf s) e = absurd (false≢true e)
zero_not_above (fin s m x) e =
    let a = eqb-true (m * up x * 1) (0 * down x) (left _ _ e) in
    le-ltb (0 * down x) (m * up x * 1) (omega arith)
  where
    left : (a b : Bool) → (a && b) ≡ true → a ≡ true
    left true b e = refl
    left false b e = absurd (false≢true e)

zero_equals : (x : Float) → eq x zero64 ≡ true → eq zero64 (magnitude x) ≡ true
unfolding magnitude eq
zero_equals nan e = absurd (false≢true e)
zero_equals (inf s) e = absurd (false≢true e)
zero_equals (fin s m x) e = is_zero (fin false m x) (at_height m x) (zero_not_above (fin s m x) e)

zero_met : (last k : ℕ) (x : Float) → eq x zero64 ≡ true → tie (crest (positions 0 last) zero64) k (magnitude x) ≡ crest (positions 0 k) zero64
zero_met last k x e = pick_false _ _ _ (zero_not_above x e) ∙ pick_true _ _ _ (zero_equals x e)

zeros : (correlation : List Float) (n : ℕ) → ((k : ℕ) → k < suc n → eq (at correlation k) zero64 ≡ true) → crest_of (height correlation) (suc n) ≡ crest (positions 0 n) zero64
unfolding crest_of
zeros correlation zero h = zero_met 0 0 (at correlation 0) (h 0 (omega arith))
zeros correlation (suc n) h =
    ap (λ (c : Crest). tie c (suc n) (height correlation (suc n))) (zeros correlation n (λ k g. h k (omega arith))) ∙ zero_met n (suc n) (at correlation (suc n)) (h (suc n) (omega arith))

pub all_zero : (correlation : List Float) (span : ℕ) → ((k : ℕ) → k < span + 1 → eq (at correlation k) zero64 ≡ true)
    → (heights_of correlation (span + 1)).crest ≡ crest (positions 0 span) zero64
unfolding heights_of
all_zero correlation span h = rw add-one (zeros correlation span (λ k g. h k (omega arith)))
