-- A frame that counts is banked, and on the fourth the averages decide: how the code's two cases meet the definition's.
use Prim.Native.Nat.{ℕ, ◌+◌, ◌*◌, ◌<◌, ◌≤◌}
use mathlib.Core.Path.{◌≡◌, sym, ap, ◌∙◌}
use mathlib.Core.List.{List}
use native.Mathlib.Nat.{mul-le-mul_right, lt_of_le_of_lt}
use lib.ListN.{length}
use lib.Ieee.{Float, binary64, mul}
use borrow.Author.Tests.{lt-ltb, le-ltb}
use Rattle.answers.specs.Pick.{pick_true, pick_false}
use Rattle.floats.specs.Functions.{narrow}
use Rattle.folds.specs.Sums.{table, zeros, at}
use Rattle.folds.proofs.Laws.{length_table}
use Rattle.scan.specs.Bins.{lags}
use Rattle.scan.specs.Scoring.{one_fourth, averages_of, decision, verdict_by, Ruling, ruling}
use Rattle.scan.specs.declared.Geometry.{Geometry}
use Rattle.scan.specs.declared.Verdict.{Verdict}
use Rattle.scan.specs.declared.Frame.{Frame}
use Rattle.scan.specs.declared.Frame.TheVariants as frame

-- a delay no longer than the span fits in native samples
pub fits : (a b d n : ℕ) → a ≤ b → b * d < n → a * d < n
fits a b d n h k = lt_of_le_of_lt (mul-le-mul_right d h) k

abbrev outcome : Frame → Verdict → List Float → Ruling
outcome answer verdict lag_sums = record { answer = answer; verdict = verdict; lag_sums = lag_sums }

module _ (g : Geometry) (v : Verdict) (peak : Float) (sums : List Float) where
  pub banks : (p : Float) (verdict : Verdict) → v.banked + 1 < 4 → p ≡ narrow peak → verdict ≡ verdict_by v peak (frame.Banked p) (v.banked + 1)
      → outcome (frame.Banked p) verdict sums ≡ ruling g v peak sums
  unfolding ruling
  banks p verdict h e f = rw (f, e) (sym (pick_true _ _ _ (lt-ltb (v.banked + 1) 4 h)))

  pub decides : (averages cleared : List Float) (answer : Frame) (verdict : Verdict) → 4 ≤ v.banked + 1 → length sums ≡ lags g
      → averages ≡ table (λ k. mul binary64 (at sums k) one_fourth) (length sums) → answer ≡ decision g averages → cleared ≡ zeros (length averages)
      → verdict ≡ verdict_by v peak answer 0 → outcome answer verdict cleared ≡ ruling g v peak sums
  unfolding ruling averages_of
  decides averages cleared answer verdict h l a d z f =
      let size : length averages ≡ lags g = ap length a ∙ length_table _ (length sums) ∙ l in
      rw (f, d, z, size, a, l) (sym (pick_false _ _ _ (le-ltb (v.banked + 1) 4 h)))
