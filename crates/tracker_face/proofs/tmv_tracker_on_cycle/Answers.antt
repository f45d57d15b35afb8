-- `tracker_face::tmv_tracker_on_cycle` meets its contract.
use Rattle.face.proofs.Order.{state_fits, values_fit, refused, let_pass, number_is, words_are, values_are}
use Rattle.tracker_face.specs.Calls.{on_cycle_called}
use mathlib.Core.Path.{sym, ◌∙◌}
use Rattle.tracker_face.proofs.tmv_tracker_on_cycle.Goals as goal

pub returns-then-refusal-ne0 : goal.returns-then-refusal-ne0
unfolding on_cycle_called
returns-then-refusal-ne0 c = let w = refused _ _ _ _ _ _ c.judge-refusal.ensures c.if-refusal-ne0.true in record { number = number_is w; words = words_are w; values = values_are w }

pub load-requires : goal.load-requires
load-requires c = state_fits _ c.args.state.now _ _ (sym c.judge-refusal.ensures ∙ c.if-refusal-ne0.false)

pub tell_verdict-number-requires : goal.tell_verdict-number-requires
tell_verdict-number-requires c = values_fit _ _ _ c.args.values.now (sym c.judge-refusal.ensures ∙ c.if-refusal-ne0.false)

pub settle-requires : goal.settle-requires
settle-requires c = state_fits _ c.args.state.now _ _ (sym c.judge-refusal.ensures ∙ c.if-refusal-ne0.false)

pub returns : goal.returns
unfolding on_cycle_called
returns c = let p = let_pass _ _ _ _ _ _ c.judge-refusal.ensures c.if-refusal-ne0.false in
    record {
      number = cc (c.settle.ensures.number, c.tell_verdict-number.ensures.number, c.cycle-cycled.ensures, c.load.ensures) ∙ number_is p;
      words = cc (c.settle.ensures.words, c.tell_verdict-number.ensures.number, c.cycle-cycled.ensures, c.load.ensures) ∙ words_are p;
      values = cc (c.tell_verdict-number.ensures.values, c.cycle-cycled.ensures, c.load.ensures) ∙ values_are p;
    }
