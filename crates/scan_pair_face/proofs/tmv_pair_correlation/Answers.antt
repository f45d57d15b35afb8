-- `scan_pair_face::tmv_pair_correlation` meets its contract.
use mathlib.Core.Path.{sym, ◌∙◌}
use Rattle.scan_pair_face.specs.Calls.{correlation_called}
use Rattle.face.proofs.Order.{refused, let_pass, number_is, values_are}
use Rattle.scan_pair_face.proofs.Order.{on_state_fits, on_values_fit}
use Rattle.scan_pair_face.proofs.tmv_pair_correlation.Goals as goal

pub returns-then-refusal-ne0 : goal.returns-then-refusal-ne0
unfolding correlation_called
returns-then-refusal-ne0 c = let w = refused _ _ _ _ _ _ c.judge_on-refusal.ensures c.if-refusal-ne0.true in record { number = number_is w; values = values_are w }

pub words_of-requires : goal.words_of-requires
words_of-requires c = on_state_fits c.args.channel c.args.state.now _ (sym c.judge_on-refusal.ensures ∙ c.if-refusal-ne0.false)

pub level_pattern-requires : goal.level_pattern-requires
level_pattern-requires c = c.words_of.ensures.many

pub load-requires : goal.load-requires
load-requires c = on_state_fits c.args.channel c.args.state.now _ (sym c.judge_on-refusal.ensures ∙ c.if-refusal-ne0.false)

pub tell_level-requires : goal.tell_level-requires
tell_level-requires c = on_values_fit c.args.channel c.args.state.now _ c.args.values.now (sym c.judge_on-refusal.ensures ∙ c.if-refusal-ne0.false)

pub returns : goal.returns
unfolding correlation_called
returns c = let p = let_pass _ _ _ _ _ _ c.judge_on-refusal.ensures c.if-refusal-ne0.false in
    record {
      number = cc (c.tell_level.ensures.number, c.correlation.ensures, c.load.ensures) ∙ number_is p;
      values = cc (c.tell_level.ensures.values, c.correlation.ensures, c.load.ensures, c.level_pattern.ensures, c.words_of.ensures.words) ∙ values_are p;
    }
