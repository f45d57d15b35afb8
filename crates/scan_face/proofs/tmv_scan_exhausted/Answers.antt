-- `scan_face::tmv_scan_exhausted` meets its contract.
use mathlib.Core.Path.{sym, ◌∙◌}
use Rattle.scan_face.specs.Calls.{exhausted_called}
use Rattle.face.proofs.Order.{state_fits, refused, let_pass, number_is}
use Rattle.scan_face.proofs.tmv_scan_exhausted.Goals as goal

pub returns-then-refusal-ne0 : goal.returns-then-refusal-ne0
unfolding exhausted_called
returns-then-refusal-ne0 c = number_is (refused _ _ _ _ _ _ c.judge-refusal.ensures c.if-refusal-ne0.true)

pub load-requires : goal.load-requires
load-requires c = state_fits _ c.args.state.now _ _ (sym c.judge-refusal.ensures ∙ c.if-refusal-ne0.false)

pub returns : goal.returns
unfolding exhausted_called
returns c = cc (c.flag_number.ensures, c.exhausted.ensures, c.load.ensures) ∙ number_is (let_pass _ _ _ _ _ _ c.judge-refusal.ensures c.if-refusal-ne0.false)
