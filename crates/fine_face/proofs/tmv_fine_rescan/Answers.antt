-- `fine_face::tmv_fine_rescan` meets its contract.
use mathlib.Core.Path.{sym, ◌∙◌}
use Rattle.fine_face.specs.Calls.{rescan_called}
use Rattle.face.proofs.Order.{state_fits, refused, let_pass, number_is}
use Rattle.fine_face.proofs.tmv_fine_rescan.Goals as goal

pub returns-then-refusal-ne0 : goal.returns-then-refusal-ne0
unfolding rescan_called
returns-then-refusal-ne0 c = number_is (refused _ _ _ _ _ _ c.judge-refusal.ensures c.if-refusal-ne0.true)

pub load-requires : goal.load-requires
load-requires c = state_fits _ c.args.state.now _ _ (sym c.judge-refusal.ensures ∙ c.if-refusal-ne0.false)

pub returns : goal.returns
unfolding rescan_called
returns c = cc (c.rescan_number.ensures, c.rescan-rescanned.ensures, c.load.ensures) ∙ number_is (let_pass _ _ _ _ _ _ c.judge-refusal.ensures c.if-refusal-ne0.false)
