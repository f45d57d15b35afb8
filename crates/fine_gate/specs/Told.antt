-- What the answers of the gate tell (answers: Told). No case has a value.
use Rattle.std.specs.Prelude.{ℕ, List, [], ◌∷◌}
use Rattle.answers.specs.Told.{refused}
use Rattle.fine_gate.specs.declared.Taking.{Taking}
use Rattle.fine_gate.specs.declared.Taking.TheVariants as taking
use Rattle.fine_gate.specs.declared.GateAnswer.{GateAnswer}
use Rattle.fine_gate.specs.declared.GateAnswer.TheVariants as gate
use Rattle.fine_gate.specs.declared.RescanAnswer.{RescanAnswer}
use Rattle.fine_gate.specs.declared.RescanAnswer.TheVariants as rescan

abbrev pub taking_told : Taking → List ℕ
taking_told (taking.Refused number) = refused number
taking_told taking.Taken = 1 ∷ []
taking_told taking.Full = 2 ∷ []

abbrev pub gate_told : GateAnswer → List ℕ
gate_told (gate.Refused number) = refused number
gate_told gate.Skipped = 1 ∷ []
gate_told gate.Silent = 2 ∷ []
gate_told gate.First = 3 ∷ []
gate_told gate.Later = 4 ∷ []

abbrev pub rescan_told : RescanAnswer → List ℕ
rescan_told (rescan.Refused number) = refused number
rescan_told rescan.NothingRetained = 1 ∷ []
rescan_told rescan.Skipped = 2 ∷ []
rescan_told rescan.Silent = 3 ∷ []
rescan_told rescan.Taken = 4 ∷ []
