-- The scores of a frame whose levels are f32 levels: each is at most 2 ^ 323 in size, so that a sum of four is finite.
use Prim.Native.Nat.{ℕ, ◌+◌, ◌≤◌, ◌<◌}
use mathlib.Core.Path.{◌≡◌}
use mathlib.Core.List.{List}
use mathlib.Core.Bool.{false}
use native.Mathlib.Omega.{arith}
use lib.Dec.{lit≤}
use lib.ListN.{length}
use lib.Ieee.{Float, le}
use Rattle.answers.specs.Pick.{pick_case}
use Rattle.floats.specs.Functions.{zero64, whole}
use Rattle.floats.proofs.Levels.{AtMost}
use Rattle.folds.specs.Sums.{upto, table, at, square, sum_of, prefix_sums, prefix_squares}
use Rattle.scan.specs.Bins.{window_len, lags}
use Rattle.scan.specs.Scoring.{energy_floor, mean_of, centred, near_energy, flat, across, segment_energy, lag_product, score_at, scores_of}
use Rattle.scan.specs.declared.Geometry.{Geometry}
use Rattle.scan.proofs.Laws.{All, all_at, all_table, length_table}
use Rattle.scan.proofs.Settings.{Allowed, wide, short}
use Rattle.scan.proofs.Sizes.{Size, size_finite, mul_size, div_size, mul_at_least, root_at_least, above_floor, level_size, whole_at_least, looser, difference_size, total_size}

-- a score is at most 2 ^ score_bits in size
abbrev pub score_bits : ℕ
score_bits = 323

-- the levels and the window of a full frame
pub record Readable (g : Geometry) (levels window : List Float) : Type 0 where
  pub levels_length : length levels ≡ g.frame
  pub window_length : length window ≡ window_len g
  pub levels_small : All (AtMost 1) levels
  pub window_small : All (AtMost 1) window

module _ (g : Geometry) (a : Allowed g) (levels window : List Float) (r : Readable g levels window) where
  level_at : (i : ℕ) → i < length levels → Size 1 128 (at levels i)
  level_at i l = level_size (at levels i) (all_at (AtMost 1) levels i l r.levels_small)

  bin_at : (i : ℕ) → i < length window → Size 1 128 (at window i)
  bin_at i l = level_size (at window i) (all_at (AtMost 1) window i l r.window_small)

  levels_few : length levels ≤ 8000
  levels_few = omega (arith, r.levels_length, short g a)

  window_few : length window ≤ 8000
  window_few = omega (arith, r.window_length, short g a)

  centred_size : (i : ℕ) → i < length levels → Size 1 142 (centred levels i)
  unfolding mean_of
  centred_size i l =
      difference_size 141 (at levels i) (mean_of levels) (lit≤ tt) (looser 128 141 (at levels i) (lit≤ tt) (level_at i l))
      (div_size 141 0 (sum_of levels) (whole (length levels)) (lit≤ tt) (total_size 128 (at levels) (length levels) (lit≤ tt) levels_few level_at) (whole_at_least (length levels) (omega arith)))

  near_energy_lem : Size 1 297 (near_energy levels)
  unfolding near_energy
  near_energy_lem = total_size 284 _ (length levels) (lit≤ tt) levels_few (λ i l. mul_size 142 142 (centred levels i) (centred levels i) (lit≤ tt) (centred_size i l) (centred_size i l))

  product_size : (k : ℕ) → k ≤ g.span → Size 1 283 (lag_product levels window k)
  unfolding lag_product
  product_size k l =
      total_size 270 _ (length levels) (lit≤ tt) levels_few
      (λ i j. mul_size 142 128 (centred levels i) (at window (k + i)) (lit≤ tt) (centred_size i j) (bin_at (k + i) (omega (arith, r.levels_length, r.window_length))))

  -- the difference of two prefix values
  across_size : (e : ℕ) (f : ℕ → Float) (k : ℕ) → e ≤ 880 → k ≤ g.span → ((i : ℕ) → i < length window → Size 1 e (f i)) → Size 1 (e + 13 + 1) (across (table (upto f) (length window + 1)) (length levels) k)
  across_size e f k b l h =
      difference_size (e + 13) _ _ (omega arith) (prefix_at (k + length levels) (omega (arith, r.levels_length, r.window_length))) (prefix_at k (omega (arith, r.window_length)))
    where
      prefix_at : (i : ℕ) → i < length window + 1 → Size 1 (e + 13) (at (table (upto f) (length window + 1)) i)
      prefix_at i j =
          all_at (Size 1 (e + 13)) (table (upto f) (length window + 1)) i (omega (arith, length_table (upto f) (length window + 1)))
          (all_table (Size 1 (e + 13)) (upto f) (length window + 1) (λ n m. total_size e f n (omega arith) (omega (arith, window_few)) (λ q c. h q (omega arith))))

  sums_size : (k : ℕ) → k ≤ g.span → Size 1 142 (across (prefix_sums window) (length levels) k)
  unfolding prefix_sums
  sums_size k l = across_size 128 (at window) k (lit≤ tt) l bin_at

  squares_size : (k : ℕ) → k ≤ g.span → Size 1 270 (across (prefix_squares window) (length levels) k)
  unfolding prefix_squares
  squares_size k l = across_size 256 (λ i. square (at window i)) k (lit≤ tt) l (λ i j. mul_size 128 128 (at window i) (at window i) (lit≤ tt) (bin_at i j) (bin_at i j))

  energy_size : (k : ℕ) → k ≤ g.span → Size 1 285 (segment_energy window (length levels) k)
  unfolding segment_energy
  energy_size k l =
      let sums = across (prefix_sums window) (length levels) k in
      let squares = across (prefix_squares window) (length levels) k in
      difference_size 284 squares _ (lit≤ tt) (looser 270 284 squares (lit≤ tt) (squares_size k l))
      (div_size 284 0 (square sums) (whole (length levels)) (lit≤ tt) (mul_size 142 142 sums sums (lit≤ tt) (sums_size k l) (sums_size k l)) (whole_at_least (length levels) (omega (arith, r.levels_length, wide g a))))

  score_size : flat levels ≡ false → (k : ℕ) → k ≤ g.span → Size 1 score_bits (score_at levels window k)
  unfolding flat score_at
  score_size f k l =
      let energy = segment_energy window (length levels) k in
      pick_case (Size 1 score_bits) (le energy energy_floor) zero64 _ (λ t. lit≤ tt)
      (λ t. div_size 283 40 (lag_product levels window k) _ (lit≤ tt) (product_size k l)
      (root_at_least 40 _ (lit≤ tt) (mul_at_least 40 40 (near_energy levels) energy (lit≤ tt) (size_finite 1 297 (near_energy levels) near_energy_lem) (size_finite 1 285 energy (energy_size k l))
      (above_floor 1 297 (near_energy levels) f near_energy_lem) (above_floor 1 285 energy t (energy_size k l)))))

  pub scores_size : flat levels ≡ false → All (Size 1 score_bits) (scores_of g levels window)
  unfolding scores_of
  scores_size f = all_table (Size 1 score_bits) (score_at levels window) (lags g) (λ k l. score_size f k (omega arith))
