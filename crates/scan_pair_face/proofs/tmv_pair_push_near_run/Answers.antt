-- `scan_pair_face::tmv_pair_push_near_run` meets its contract.
use mathlib.Core.Path.{sym, ◌∙◌}
use Rattle.scan_pair_face.specs.Calls.{push_near_run_called}
use Rattle.face.proofs.Order.{refused, let_pass, number_is, words_are, buffers_are, values_are}
use Rattle.scan_pair_face.proofs.Order.{on_state_fits, on_values_fit}
use Rattle.scan_pair_face.proofs.tmv_pair_push_near_run.Goals as goal

pub returns-then-refusal-ne0 : goal.returns-then-refusal-ne0
unfolding push_near_run_called
returns-then-refusal-ne0 c = let w = refused _ _ _ _ _ _ c.judge_on-refusal.ensures c.if-refusal-ne0.true in record { number = number_is w; words = words_are w; levels = buffers_are w; values = values_are w }

pub load-requires : goal.load-requires
load-requires c = on_state_fits c.args.channel c.args.state.now _ (sym c.judge_on-refusal.ensures ∙ c.if-refusal-ne0.false)

pub tell_run-requires : goal.tell_run-requires
tell_run-requires c = on_values_fit c.args.channel c.args.state.now _ c.args.values.now (sym c.judge_on-refusal.ensures ∙ c.if-refusal-ne0.false)

pub settle_in-requires : goal.settle_in-requires
settle_in-requires c = on_state_fits c.args.channel c.args.state.now _ (sym c.judge_on-refusal.ensures ∙ c.if-refusal-ne0.false)

pub returns : goal.returns
unfolding push_near_run_called
returns c = let p = let_pass _ _ _ _ _ _ c.judge_on-refusal.ensures c.if-refusal-ne0.false in
    record {
      number = cc (c.settle_in.ensures.number, c.tell_run.ensures.number, c.push_near_run-handed.ensures.handed, c.load.ensures) ∙ number_is p;
      words = cc (c.settle_in.ensures.words, c.tell_run.ensures.number, c.push_near_run-handed.ensures.handed, c.load.ensures) ∙ words_are p;
      levels = cc (c.push_near_run-handed.ensures.levels, c.load.ensures) ∙ buffers_are p;
      values = cc (c.tell_run.ensures.values, c.push_near_run-handed.ensures.handed, c.load.ensures) ∙ values_are p;
    }
