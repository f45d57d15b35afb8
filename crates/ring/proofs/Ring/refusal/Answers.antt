-- `Ring::refusal` meets its contract.
use Rattle.answers.proofs.Cases.{cases}
use Rattle.ring.specs.Ring.{ring_refusal}
use Rattle.ring.proofs.Ring.refusal.Goals as goal

pub returns-then-capacity-eq0 : goal.returns-then-capacity-eq0
unfolding ring_refusal
returns-then-capacity-eq0 c = search (cases)

pub returns-then-self-gt-LIMIT : goal.returns-then-self-gt-LIMIT
unfolding ring_refusal
returns-then-self-gt-LIMIT c = search (cases)

pub returns : goal.returns
unfolding ring_refusal
returns c = search (cases)
