-- The scores and the count as the code forms them are the definition's.
use Rattle.std.proofs.Common.{◌≡◌, ℕ, zero, suc, ◌+◌, ◌<◌, ◌≤◌, List, length, refl, ap, ◌∙◌, arith}
use lib.Ieee.{Float}
use Rattle.folds.specs.Sums.{table, at, prefix_sums, prefix_squares}
use Rattle.folds.proofs.Laws.{upto_ext, table_ext, at_table, length_table}
use Rattle.scan.specs.Scoring.{centred, near_energy, segment_energy, lag_product, score_at, live, live_lags}
use Rattle.scan_lags.specs.Lags.{Starts, energy_from, products_of, score_from, above_in}

-- the energies as the code forms them
same_energies : (window sums squares energies : List Float) (frame n : ℕ) → sums ≡ prefix_sums window → squares ≡ prefix_squares window → energies ≡ table (energy_from sums squares frame) n
    → (k : ℕ) → k < n → at energies k ≡ segment_energy window frame k
unfolding segment_energy energy_from
same_energies window sums squares energies frame n a b e k h = rw (e, a, b) (at_table (energy_from (prefix_sums window) (prefix_squares window) frame) n k h)

-- the lags counted by their energies are those of the definition
same_count : (window energies : List Float) (frame n : ℕ) → ((k : ℕ) → k < n → at energies k ≡ segment_energy window frame k) → above_in energies n ≡ live_lags window frame n
unfolding above_in live_lags live
same_count window energies frame zero h = refl
same_count window energies frame (suc n) h =
    let rest = same_count window energies frame n (λ k l. h k (omega arith)) in
    let here = h n (omega arith) in
    cc

pub all_counted : (window sums squares energies : List Float) (frame n count : ℕ) → sums ≡ prefix_sums window → squares ≡ prefix_squares window
    → energies ≡ table (energy_from sums squares frame) n → count ≡ above_in energies (length energies) → count ≡ live_lags window frame n
all_counted window sums squares energies frame n count a b e c =
    c ∙ ap (above_in energies) (ap length e ∙ length_table _ n) ∙ same_count window energies frame n (same_energies window sums squares energies frame n a b e)

module _ (levels window near wide : List Float) (centres : Starts (centred levels) (length levels) near) (widens : Starts (at window) (length window) wide) where
  same_products : (k : ℕ) → k + length levels ≤ length window → products_of near wide (length levels) k ≡ lag_product levels window k
  unfolding lag_product
  same_products k h =
      upto_ext _ _ (length levels) (λ i g.
      let a = centres i g in
      let b = widens (k + i) (omega arith) in
      cc)

  -- lag k's score, from its energy
  same_score : (power energy : Float) (k : ℕ) → power ≡ near_energy levels → energy ≡ segment_energy window (length levels) k → k + length levels ≤ length window
      → score_from near wide (length levels) power k energy ≡ score_at levels window k
  unfolding score_from score_at
  same_score power energy k p e h = rw (e, p, same_products k h)

  pub all_scored : (sums squares energies scores : List Float) (power : Float) (n : ℕ) → sums ≡ prefix_sums window → squares ≡ prefix_squares window
      → energies ≡ table (energy_from sums squares (length levels)) n → power ≡ near_energy levels
      → scores ≡ table (λ k. score_from near wide (length levels) power k (at energies k)) (length energies) → n + length levels ≡ length window + 1
      → scores ≡ table (score_at levels window) n
  all_scored sums squares energies scores power n a b e p s l =
      let size : length energies ≡ n = ap length e ∙ length_table _ n in
      let energy = same_energies window sums squares energies (length levels) n a b e in
      s ∙ rw size (table_ext _ _ n (λ k h. same_score power (at energies k) k p (energy k h) (omega arith)))
