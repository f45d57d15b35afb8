-- What a run's answer tells, in the form of answers: Told. Its cases have the places that those of a single sample have (fine_gate: Told).
use Rattle.std.specs.Prelude.{ℕ, List, [], ◌∷◌}
use Rattle.answers.specs.Told.{refused}
use Rattle.fine_handover.specs.declared.RunTaking.{RunTaking}
use Rattle.fine_handover.specs.declared.RunTaking.TheVariants as run

abbrev pub run_told : RunTaking → List ℕ
run_told (run.Refused number) = refused number
run_told (run.Taken n) = 1 ∷ n ∷ []
run_told (run.Full n) = 2 ∷ n ∷ []
