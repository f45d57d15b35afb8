-- `scan_pair_face::tmv_pair_exhausted` meets its contract.
use mathlib.Core.Path.{sym, ◌∙◌}
use Rattle.scan_pair_face.specs.Calls.{exhausted_called}
use Rattle.face.proofs.Order.{refused, let_pass, number_is}
use Rattle.scan_pair_face.proofs.Order.{on_state_fits}
use Rattle.scan_pair_face.proofs.tmv_pair_exhausted.Goals as goal

pub returns-then-refusal-ne0 : goal.returns-then-refusal-ne0
unfolding exhausted_called
returns-then-refusal-ne0 c = number_is (refused _ _ _ _ _ _ c.judge_on-refusal.ensures c.if-refusal-ne0.true)

pub load-requires : goal.load-requires
load-requires c = on_state_fits c.args.channel c.args.state.now _ (sym c.judge_on-refusal.ensures ∙ c.if-refusal-ne0.false)

pub returns : goal.returns
unfolding exhausted_called
returns c = cc (c.flag_number.ensures, c.exhausted.ensures, c.load.ensures) ∙ number_is (let_pass _ _ _ _ _ _ c.judge_on-refusal.ensures c.if-refusal-ne0.false)
