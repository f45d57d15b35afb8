-- Each call, refused and not, with the refusal number n that the code found.
use Prim.Native.Nat.{ℕ}
use mathlib.Core.Path.{◌≡◌, sym, ap, ◌∙◌}
use mathlib.Core.List.{List}
use mathlib.Core.Bool.{true}
use lib.Dec.{eqb}
use lib.ListN.{length}
use lib.Ieee.{Float}
use borrow.Author.Tests.{eqb-true}
use Rattle.answers.proofs.Refusals.{passed}
use Rattle.folds.specs.Sums.{zeros}
use Rattle.scan.specs.Bins.{in_table, geometry_of, envelope_len, lags}
use Rattle.scan.specs.State.{new_far, new_near, new_verdict, new_scan}
use Rattle.scan.specs.Calls.{changed_by, restart, restart_lengths, making_refusal, made, reset_refusal, was_reset}
use Rattle.answers.specs.declared.Change.TheVariants as change
use Rattle.scan.specs.declared.Geometry.{Geometry}
use Rattle.scan.specs.declared.Scan.{Scan}
use Rattle.scan_calls.proofs.Chains.{turned_down, accepted, first, second}
use Rattle.scan_calls.proofs.Passing.{pass}

-- both lists cleared, of the lengths that a geometry gives
cleared_by : (slack : ℕ) (g : Geometry) (s : Scan) (envelope lag_sums : List Float) → restart_lengths slack g envelope lag_sums ≡ true
    → restart (changed_by change.Done s) (zeros (length envelope)) (zeros (length lag_sums)) ≡ restart (changed_by change.Done s) (zeros (envelope_len slack g)) (zeros (lags g))
cleared_by slack g s envelope lag_sums h =
    let a : length envelope ≡ envelope_len slack g = eqb-true _ _ (first _ _ h) in
    let b : length lag_sums ≡ lags g = eqb-true _ _ (second (eqb (length envelope) (envelope_len slack g)) _ h) in
    rw (a, b)

module _ (slack rate ceiling : ℕ) (envelope lag_sums : List Float) {n : ℕ} (is : n ≡ making_refusal slack rate ceiling envelope lag_sums) where
  pub not_made : (n ≡ 0 → ⊥) → restart (changed_by (change.Refused n) (new_scan 8000 1)) envelope lag_sums ≡ made slack rate ceiling envelope lag_sums
  unfolding made
  not_made h = turned_down is _ h (rw is)

  pub is_made : n ≡ 0 → restart (changed_by change.Done (new_scan rate ceiling)) (zeros (length envelope)) (zeros (length lag_sums)) ≡ made slack rate ceiling envelope lag_sums
  unfolding made making_refusal geometry_of
  is_made z =
      let a = passed (in_table rate ceiling) 0 _ (sym is ∙ z) in
      let b = passed (restart_lengths slack (geometry_of rate ceiling) envelope lag_sums) 1 _ a.1 in
      accepted is _ z (cleared_by slack (geometry_of rate ceiling) (new_scan rate ceiling) envelope lag_sums b.0)

module _ (slack : ℕ) (s : Scan) (envelope lag_sums : List Float) {n : ℕ} (is : n ≡ reset_refusal slack s envelope lag_sums) where
  pub not_reset : (n ≡ 0 → ⊥) → restart (changed_by (change.Refused n) s) envelope lag_sums ≡ was_reset slack s envelope lag_sums
  unfolding was_reset
  not_reset h = turned_down is _ h (rw is)

  pub is_reset : n ≡ 0
      → restart (changed_by change.Done (record { geometry = s.geometry; far = new_far; near = new_near; verdict = new_verdict })) (zeros (length envelope)) (zeros (length lag_sums)) ≡ was_reset slack s envelope lag_sums
  unfolding was_reset reset_refusal
  is_reset z =
      let ok = pass s _ (sym is ∙ z) in
      accepted is _ z (cleared_by slack s.geometry _ envelope lag_sums (ap (λ (g : Geometry). restart_lengths slack g envelope lag_sums) ok.geometry ∙ ok.fit))
