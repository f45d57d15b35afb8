-- A run of near samples: the index after it, and how many pass.
use Prim.Native.Nat.{ℕ, ◌+◌, ◌-◌, ◌^◌, ◌≤◌, min}
use mathlib.Core.List.{List, [], ◌∷◌}
use native.Mathlib.Omega.{arith}
use lib.Ieee.{Float}
use lib.ListN.{length}
use Rattle.answers.specs.Pick.{pick_case}
use Rattle.answers.specs.Numbers.{next_long_count}
use Rattle.scan.specs.Calls.{pushed_near}
use Rattle.scan.specs.declared.Scan.{Scan}
use Rattle.scan_runs.specs.Runs.{Run, passes, ran}

-- the index after so many samples
abbrev pub later : ℕ → ℕ → ℕ
later index n = min (index + n) (2 ^ 64 - 1)

-- no more samples pass than there are
pub passed_within : (xs : List Float) (scan : Scan) (levels : List Float) (index : ℕ) → (ran scan levels xs index).passed ≤ length xs
unfolding ran
passed_within [] scan levels index = omega arith
passed_within (x ∷ xs) scan levels index =
    pick_case (λ (z : Run). z.passed ≤ length (x ∷ xs)) (passes (pushed_near scan levels x index).took.answer) _ _
    (λ t. omega (arith, passed_within xs (pushed_near scan levels x index).took.scan (pushed_near scan levels x index).levels (next_long_count index)))
    (λ t. omega arith)
