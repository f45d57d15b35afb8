-- What a verdict tells (answers: Told): its number and its values.
use Rattle.std.specs.Prelude.{ℕ, List, [], ◌∷◌}
use Rattle.answers.specs.Told.{refused}
use Rattle.tracker.specs.declared.Trigger.{Trigger}
use Rattle.tracker.specs.declared.Trigger.TheVariants.{Edge, Lost, Jump, Seam}
use Rattle.tracker.specs.declared.Verdict.{Verdict}
use Rattle.tracker.specs.declared.Verdict.TheVariants.{Refused, Hold, Move, Reacquire}

abbrev pub hold : List ℕ
hold = 1 ∷ []

-- A move tells its alignment.
abbrev pub move_to : ℕ → List ℕ
move_to alignment = 2 ∷ alignment ∷ []

-- The trigger tells which reacquire it is.
abbrev pub trigger_number : Trigger → ℕ
trigger_number Edge = 3
trigger_number Lost = 4
trigger_number Jump = 5
trigger_number Seam = 6

abbrev pub reacquire : Trigger → List ℕ
reacquire trigger = trigger_number trigger ∷ []

abbrev pub verdict_told : Verdict → List ℕ
verdict_told (Refused number) = refused number
verdict_told Hold = hold
verdict_told (Move alignment) = move_to alignment.0
verdict_told (Reacquire trigger) = reacquire trigger
