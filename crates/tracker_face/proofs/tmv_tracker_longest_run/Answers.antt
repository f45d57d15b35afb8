-- `tracker_face::tmv_tracker_longest_run` meets its contract.
use Rattle.face.proofs.Order.{state_fits, values_fit, refused, let_pass, number_is, values_are}
use Rattle.tracker_face.specs.Calls.{longest_run_called}
use mathlib.Core.Path.{sym, ◌∙◌}
use Rattle.tracker_face.proofs.tmv_tracker_longest_run.Goals as goal

pub returns-then-refusal-ne0 : goal.returns-then-refusal-ne0
unfolding longest_run_called
returns-then-refusal-ne0 c = let w = refused _ _ _ _ _ _ c.judge-refusal.ensures c.if-refusal-ne0.true in record { number = number_is w; values = values_are w }

pub load-requires : goal.load-requires
load-requires c = state_fits _ c.args.state.now _ _ (sym c.judge-refusal.ensures ∙ c.if-refusal-ne0.false)

pub tell_count-requires : goal.tell_count-requires
tell_count-requires c = values_fit _ _ _ c.args.values.now (sym c.judge-refusal.ensures ∙ c.if-refusal-ne0.false)

pub returns : goal.returns
unfolding longest_run_called
returns c = let p = let_pass _ _ _ _ _ _ c.judge-refusal.ensures c.if-refusal-ne0.false in
    record {
      number = cc (c.tell_count.ensures.number, c.longest_run.ensures, c.load.ensures) ∙ number_is p;
      values = cc (c.tell_count.ensures.values, c.longest_run.ensures, c.load.ensures) ∙ values_are p;
    }
