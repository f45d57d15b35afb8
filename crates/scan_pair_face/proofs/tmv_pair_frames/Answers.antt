-- `scan_pair_face::tmv_pair_frames` meets its contract.
use mathlib.Core.Path.{sym, ◌∙◌}
use Rattle.scan_pair_face.specs.Calls.{frames_called}
use Rattle.face.proofs.Order.{refused, let_pass, number_is, values_are}
use Rattle.scan_pair_face.proofs.Order.{on_state_fits, on_values_fit}
use Rattle.scan_pair_face.proofs.tmv_pair_frames.Goals as goal

pub returns-then-refusal-ne0 : goal.returns-then-refusal-ne0
unfolding frames_called
returns-then-refusal-ne0 c = let w = refused _ _ _ _ _ _ c.judge_on-refusal.ensures c.if-refusal-ne0.true in record { number = number_is w; values = values_are w }

pub load-requires : goal.load-requires
load-requires c = on_state_fits c.args.channel c.args.state.now _ (sym c.judge_on-refusal.ensures ∙ c.if-refusal-ne0.false)

pub tell_count-requires : goal.tell_count-requires
tell_count-requires c = on_values_fit c.args.channel c.args.state.now _ c.args.values.now (sym c.judge_on-refusal.ensures ∙ c.if-refusal-ne0.false)

pub returns : goal.returns
unfolding frames_called
returns c = let p = let_pass _ _ _ _ _ _ c.judge_on-refusal.ensures c.if-refusal-ne0.false in
    record {
      number = cc (c.tell_count.ensures.number, c.frames.ensures, c.load.ensures) ∙ number_is p;
      values = cc (c.tell_count.ensures.values, c.frames.ensures, c.load.ensures) ∙ values_are p;
    }
