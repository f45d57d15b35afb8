use Rattle.fine.specs.Calls.{state_refusal}
use Rattle.fine.proofs.Fine.refusal.Goals as goal

pub returns : goal.returns
unfolding state_refusal
returns c = c.first_refusals.ensures
