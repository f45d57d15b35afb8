-- `scan_pair_face::tmv_pair_push_near` meets its contract.
use mathlib.Core.Path.{sym, ◌∙◌}
use Rattle.scan_pair_face.specs.Calls.{push_near_called}
use Rattle.face.proofs.Order.{refused, let_pass, number_is, words_are, buffers_are}
use Rattle.scan_pair_face.proofs.Order.{on_state_fits}
use Rattle.scan_pair_face.proofs.tmv_pair_push_near.Goals as goal

pub returns-then-refusal-ne0 : goal.returns-then-refusal-ne0
unfolding push_near_called
returns-then-refusal-ne0 c = let w = refused _ _ _ _ _ _ c.judge_on-refusal.ensures c.if-refusal-ne0.true in record { number = number_is w; words = words_are w; levels = buffers_are w }

pub load-requires : goal.load-requires
load-requires c = on_state_fits c.args.channel c.args.state.now _ (sym c.judge_on-refusal.ensures ∙ c.if-refusal-ne0.false)

pub settle_in-requires : goal.settle_in-requires
settle_in-requires c = on_state_fits c.args.channel c.args.state.now _ (sym c.judge_on-refusal.ensures ∙ c.if-refusal-ne0.false)

pub returns : goal.returns
unfolding push_near_called
returns c = let p = let_pass _ _ _ _ _ _ c.judge_on-refusal.ensures c.if-refusal-ne0.false in
    record {
      number = cc (c.settle_in.ensures.number, c.taking_number.ensures, c.push_near-took.ensures.took, c.load.ensures) ∙ number_is p;
      words = cc (c.settle_in.ensures.words, c.taking_number.ensures, c.push_near-took.ensures.took, c.load.ensures) ∙ words_are p;
      levels = cc (c.push_near-took.ensures.levels, c.load.ensures) ∙ buffers_are p;
    }
