-- `tracker_face::judged_as` meets its contract.
use Rattle.answers.proofs.Cases.{cases}
use Rattle.tracker_face.specs.Calls.{judged_as}
use Rattle.tracker_face.proofs.judged_as.Goals as goal

pub returns-then-kind-lt3 : goal.returns-then-kind-lt3
unfolding judged_as
returns-then-kind-lt3 c = search cases

pub returns : goal.returns
unfolding judged_as
returns c = search (cases, c.evidence.ensures)
