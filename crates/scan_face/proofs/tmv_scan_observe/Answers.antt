-- `scan_face::tmv_scan_observe` meets its contract.
use mathlib.Core.Path.{sym, ap, ◌∙◌}
use Rattle.scan.specs.Calls.{Observation}
use Rattle.scan_face.specs.Calls.{observe_called}
use Rattle.face.proofs.Order.{state_fits, values_fit, refused, let_pass, number_is, words_are, values_are, buffers_are}
use Rattle.scan_face.proofs.tmv_scan_observe.Goals as goal

pub returns-then-refusal-ne0 : goal.returns-then-refusal-ne0
unfolding observe_called
returns-then-refusal-ne0 c = let w = refused _ _ _ _ _ _ c.judge-refusal.ensures c.if-refusal-ne0.true in record { number = number_is w; words = words_are w; buffers = buffers_are w; values = values_are w }

pub load-requires : goal.load-requires
load-requires c = state_fits _ c.args.state.now _ _ (sym c.judge-refusal.ensures ∙ c.if-refusal-ne0.false)

pub tell_scoring-requires : goal.tell_scoring-requires
tell_scoring-requires c = values_fit _ _ _ c.args.values.now (sym c.judge-refusal.ensures ∙ c.if-refusal-ne0.false)

pub settle-requires : goal.settle-requires
settle-requires c = state_fits _ c.args.state.now _ _ (sym c.judge-refusal.ensures ∙ c.if-refusal-ne0.false)

pub returns : goal.returns
unfolding observe_called
returns c = let p = let_pass _ _ _ _ _ _ c.judge-refusal.ensures c.if-refusal-ne0.false in
    record {
      number = cc (c.settle.ensures.number, c.tell_scoring.ensures.number, ap (λ (o : Observation). o.scored.answer) c.observe-scored.ensures, c.load.ensures) ∙ number_is p;
      words = cc (c.settle.ensures.words, c.tell_scoring.ensures.number, ap (λ (o : Observation). o.scored.answer) c.observe-scored.ensures, ap (λ (o : Observation). o.scored.scan) c.observe-scored.ensures, c.load.ensures) ∙ words_are p;
      buffers = cc (ap (λ (o : Observation). o.buffers) c.observe-scored.ensures, c.load.ensures) ∙ buffers_are p;
      values = cc (c.tell_scoring.ensures.values, ap (λ (o : Observation). o.scored.answer) c.observe-scored.ensures, c.load.ensures) ∙ values_are p;
    }
