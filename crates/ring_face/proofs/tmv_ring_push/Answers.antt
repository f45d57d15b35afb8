-- `ring_face::tmv_ring_push` meets its contract.
use mathlib.Core.Path.{sym, ◌∙◌}
use Rattle.ring_face.specs.Calls.{push_called}
use Rattle.face.proofs.Order.{state_fits, refused, let_pass, number_is, words_are, buffers_are}
use Rattle.ring_face.proofs.tmv_ring_push.Goals as goal

pub returns-then-refusal-ne0 : goal.returns-then-refusal-ne0
unfolding push_called
returns-then-refusal-ne0 c = let w = refused _ _ _ _ _ _ c.judge-refusal.ensures c.if-refusal-ne0.true in record { number = number_is w; words = words_are w; buf = buffers_are w }

pub load-requires : goal.load-requires
load-requires c = state_fits _ c.args.state.now _ _ (sym c.judge-refusal.ensures ∙ c.if-refusal-ne0.false)

pub settle_change-requires : goal.settle_change-requires
settle_change-requires c = state_fits _ c.args.state.now _ _ (sym c.judge-refusal.ensures ∙ c.if-refusal-ne0.false)

pub returns : goal.returns
unfolding push_called
returns c = let p = let_pass _ _ _ _ _ _ c.judge-refusal.ensures c.if-refusal-ne0.false in
    record {
      number = cc (c.settle_change.ensures.number, c.push-changed.ensures.0, c.load.ensures) ∙ number_is p;
      words = cc (c.settle_change.ensures.words, c.push-changed.ensures.0, c.load.ensures) ∙ words_are p;
      buf = cc (c.push-changed.ensures.1, c.load.ensures) ∙ buffers_are p;
    }
