-- `tracker_calls::outcome` meets its contract.
use Rattle.answers.proofs.Cases.{cases}
use Rattle.tracker_face.specs.Calls.{outcome_of}
use Rattle.tracker_face.proofs.outcome.Goals as goal

pub returns-then-kind-eq1 : goal.returns-then-kind-eq1
unfolding outcome_of
returns-then-kind-eq1 c = search cases

pub returns-then-kind-eq2 : goal.returns-then-kind-eq2
unfolding outcome_of
returns-then-kind-eq2 c = search cases

pub returns : goal.returns
unfolding outcome_of
returns c = search cases
