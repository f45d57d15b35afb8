-- `tracker_face::tmv_tracker_quiescent` meets its contract.
use Rattle.face.proofs.Order.{state_fits, refused, let_pass, number_is}
use Rattle.tracker_face.specs.Calls.{quiescent_called}
use mathlib.Core.Path.{sym, ◌∙◌}
use Rattle.tracker_face.proofs.tmv_tracker_quiescent.Goals as goal

pub returns-then-refusal-ne0 : goal.returns-then-refusal-ne0
unfolding quiescent_called
returns-then-refusal-ne0 c = number_is (refused _ _ _ _ _ _ c.judge-refusal.ensures c.if-refusal-ne0.true)

pub load-requires : goal.load-requires
load-requires c = state_fits _ c.args.state.now _ _ (sym c.judge-refusal.ensures ∙ c.if-refusal-ne0.false)

pub returns : goal.returns
unfolding quiescent_called
returns c = cc (c.flag_number.ensures, c.quiescent.ensures, c.load.ensures) ∙ number_is (let_pass _ _ _ _ _ _ c.judge-refusal.ensures c.if-refusal-ne0.false)
