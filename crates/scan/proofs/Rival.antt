-- The rival of step 7 is the greatest average above 0 outside the peak guard.
use Prim.Native.Nat.{ℕ, zero, suc, ◌<◌}
use mathlib.Core.Path.{◌≡◌, refl, sym, subst}
use mathlib.Core.Logic.{◌⊎◌, inl, inr, ⊎_elim}
use mathlib.Core.List.{List}
use mathlib.Core.Bool.{true, false}
use native.Mathlib.Nat.{eq-or-lt_of_le, not-suc-le-zero}
use native.Mathlib.Omega.{arith}
use lib.Dec.{leb}
use lib.Ieee.{Float, lt}
use borrow.Author.Tests.{leb-true, leb-false}
use Rattle.answers.specs.Numbers.{apart}
use Rattle.answers.specs.Pick.{pick_case}
use Rattle.floats.specs.Functions.{zero64}
use Rattle.folds.specs.Sums.{at}
use Rattle.folds.proofs.Greatest.{Positive, lt_trans, lt_self, above_zero, decided, refuted}
use Rattle.scan.specs.Bins.{lags}
use Rattle.scan.specs.Scoring.{rival_upto, rival_of}
use Rattle.scan.specs.Rival.{Outside, FindsRival}
use Rattle.scan.specs.declared.Geometry.{Geometry}

module _ (g : Geometry) (averages : List Float) (k : ℕ) where
  -- r is at no lag below n outside the guard exceeded
  abbrev Unexceeded : ℕ → Float → Type 0
  Unexceeded n r = (i : ℕ) → i < n → Outside g k i → lt r (at averages i) ≡ false

  -- it stands at one of them
  record Among (n : ℕ) (r : Float) : Type 0 where
    pub lag : ℕ
    pub inside : lag < n
    pub outside : Outside g k lag
    pub value : r ≡ at averages lag
    pub above : lt zero64 r ≡ true

  record Sought (n : ℕ) (r : Float) : Type 0 where
    pub positive : Positive r
    pub unexceeded : Unexceeded n r
    pub found : (r ≡ zero64) ⊎ Among n r

  module _ (n : ℕ) (r : Float) (s : Sought n r) where
    -- one lag more
    up_to : (z : Float) → (Outside g k n → lt z (at averages n) ≡ false) → Unexceeded n z → Unexceeded (suc n) z
    up_to z here below i l o = ⊎_elim (λ (e : i ≡ n). subst (λ (j : ℕ). Outside g k j → lt z (at averages j) ≡ false) (sym e) here o) (λ (m : i < n). below i m o) (eq-or-lt_of_le (omega arith))

    kept : (Outside g k n → lt r (at averages n) ≡ false) → Sought (suc n) r
    kept h =
        record {
          positive = s.positive;
          unexceeded = up_to r h s.unexceeded;
          found =
              ⊎_elim (λ (e : r ≡ zero64). inl e)
              (λ (a : Among n r). inr (record { lag = a.lag; inside = omega (arith, a.inside); outside = a.outside; value = a.value; above = a.above }))
              s.found;
        }

    taken : Outside g k n → lt r (at averages n) ≡ true → Sought (suc n) (at averages n)
    taken o h =
        let x = at averages n in
        let larger : lt zero64 x ≡ true = ⊎_elim (λ (e : r ≡ zero64). subst (λ (z : Float). lt z x ≡ true) e h) (λ (a : Among n r). lt_trans zero64 r x refl a.above h) s.found in
        record {
          positive = above_zero x larger;
          unexceeded = up_to x (λ p. lt_self x) (λ i l p. decided _ (λ t. refuted _ (s.unexceeded i l p) (lt_trans r x (at averages i) s.positive h t)));
          found = inr (record { lag = n; inside = omega arith; outside = o; value = refl; above = larger });
        }

  sought : (n : ℕ) → Sought n (rival_upto g averages k n)
  unfolding rival_upto
  sought zero = record { positive = refl; unexceeded = λ i l. absurd (not-suc-le-zero l); found = inl refl }
  sought (suc n) =
      let best = rival_upto g averages k n in
      let x = at averages n in
      pick_case (Sought (suc n)) (leb (apart n k) g.peak_guard) best _
      (λ t. kept n best (sought n) (λ o. absurd (omega (arith, leb-true (apart n k) g.peak_guard t))))
      (λ t. pick_case (Sought (suc n)) (lt best x) x best (taken n best (sought n) (omega (arith, leb-false (apart n k) g.peak_guard t))) (λ h. kept n best (sought n) (λ o. h)))

pub finds_rival : FindsRival
finds_rival g averages k =
    let r = rival_of g averages k in
    let s = sought g averages k (lags g) in
    ⊎_elim
    (λ (e : r ≡ zero64). inl (record { zero = e; unexceeded = subst (λ (z : Float). (i : ℕ) → i < lags g → Outside g k i → lt z (at averages i) ≡ false) e s.unexceeded }))
    (λ (a : Among g averages k (lags g) r). inr (record { lag = a.lag; inside = a.inside; outside = a.outside; value = a.value; above = a.above; unexceeded = s.unexceeded }))
    s.found
