-- A run of near samples, defined by single pushes.
use Rattle.std.specs.Prelude.{ℕ, ◌+◌, Bool, true, false, List, [], ◌∷◌, Float}
use Rattle.answers.specs.Pick.{pick}
use Rattle.answers.specs.Numbers.{next_long_count}
use Rattle.scan.specs.Calls.{pushed_near}
use Rattle.scan.specs.declared.Scan.{Scan}
use Rattle.scan.specs.declared.Taking.{Taking}
use Rattle.scan.specs.declared.Taking.TheVariants as taking

-- A sample passes if it is ignored, dropped or taken: it is not refused, and it does not fill the frame.
abbrev pub passes : Taking → Bool
passes (taking.Refused number) = false
passes taking.Ignored = true
passes taking.Dropped = true
passes taking.Taken = true
passes taking.Full = false

-- the state and the near levels after a run, and how many samples passed
pub record Run : Type 0 where
  pub scan : Scan
  pub levels : List Float
  pub passed : ℕ

-- nothing passes
abbrev pub rests : Scan → List Float → Run
rests s levels = record { scan = s; levels = levels; passed = 0 }

-- so many samples passed before
abbrev pub further : ℕ → Run → Run
further n r = record { scan = r.scan; levels = r.levels; passed = n + r.passed }

-- Samples are pushed one by one, from the index on, while they pass: the run ends before the first one that is refused or fills the frame.
unfoldable pub ran : Scan → List Float → List Float → ℕ → Run
ran s levels [] index = rests s levels
ran s levels (x ∷ xs) index =
    let p = pushed_near s levels x index in
    pick (passes p.took.answer) (further 1 (ran p.took.scan p.levels xs (next_long_count index))) (rests s levels)
