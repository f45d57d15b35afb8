-- `scan_pair_face::tmv_pair_observe` meets its contract.
use Prim.Native.Nat.{ℕ}
use mathlib.Core.Path.{sym, ap, ◌∙◌}
use Rattle.words.specs.Answers.{number}
use Rattle.scan.specs.Bins.{full_slack}
use Rattle.scan.specs.Told.{scoring_told}
use Rattle.scan_score.specs.Observing.{lent}
use Rattle.scan_words.specs.Answers.{scoring_given}
use Rattle.scan_pair.specs.State.{named, side_of}
use Rattle.scan_pair.specs.Calls.{PairObservation, pair_observed}
use Rattle.scan_pair.specs.declared.Pair.{Pair}
use Rattle.scan_pair_words.specs.Layout.{settled_in}
use Rattle.scan_pair_face.specs.Calls.{observe_called}
use Rattle.face.proofs.Order.{refused, let_pass, number_is, words_are, values_are, buffers_are}
use Rattle.scan_pair_face.proofs.Order.{on_state_fits, on_values_fit}
use Rattle.scan_pair_face.proofs.tmv_pair_observe.Goals as goal

pub returns-then-refusal-ne0 : goal.returns-then-refusal-ne0
unfolding observe_called
returns-then-refusal-ne0 c = let w = refused _ _ _ _ _ _ c.judge_on-refusal.ensures c.if-refusal-ne0.true in record { number = number_is w; words = words_are w; buffers = buffers_are w; values = values_are w }

pub load-requires : goal.load-requires
load-requires c = on_state_fits c.args.channel c.args.state.now _ (sym c.judge_on-refusal.ensures ∙ c.if-refusal-ne0.false)

pub tell_scoring-requires : goal.tell_scoring-requires
tell_scoring-requires c = on_values_fit c.args.channel c.args.state.now _ c.args.values.now (sym c.judge_on-refusal.ensures ∙ c.if-refusal-ne0.false)

pub settle_in-requires : goal.settle_in-requires
settle_in-requires c = on_state_fits c.args.channel c.args.state.now _ (sym c.judge_on-refusal.ensures ∙ c.if-refusal-ne0.false)

pub returns : goal.returns
unfolding observe_called
returns c = let p = let_pass _ _ _ _ _ _ c.judge_on-refusal.ensures c.if-refusal-ne0.false in let e = c.observe-scored.ensures ∙ ap (λ (z : Pair). pair_observed full_slack z (named c.args.channel) (lent c.args.envelope.now c.args.levels.now c.args.window.now c.args.prefix.now c.args.squares.now c.args.scores.now c.args.lag_sums.now)) c.load.ensures in
    record {
      number = c.settle_in.ensures.number ∙ c.tell_scoring.ensures.number ∙ ap (λ (o : PairObservation). number (scoring_told o.scored.answer)) e ∙ number_is p;
      words = c.settle_in.ensures.words ∙ ap (λ (k : ℕ). settled_in c.args.state.now k (side_of c.args.channel) c.observe-scored.result.pair) c.tell_scoring.ensures.number ∙ ap (λ (o : PairObservation). settled_in c.args.state.now (number (scoring_told o.scored.answer)) (side_of c.args.channel) o.scored.pair) e ∙ words_are p;
      buffers = ap (λ (o : PairObservation). o.buffers) e ∙ buffers_are p;
      values = c.tell_scoring.ensures.values ∙ ap (λ (o : PairObservation). scoring_given c.args.values.now o.scored.answer) e ∙ values_are p;
    }
