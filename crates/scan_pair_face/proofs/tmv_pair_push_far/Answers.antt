-- `scan_pair_face::tmv_pair_push_far` meets its contract.
use mathlib.Core.Path.{sym, ◌∙◌}
use Rattle.scan_pair_face.specs.Calls.{push_far_called}
use Rattle.face.proofs.Order.{state_fits, refused, let_pass, number_is, words_are, buffers_are}
use Rattle.scan_pair_face.proofs.tmv_pair_push_far.Goals as goal

pub returns-then-refusal-ne0 : goal.returns-then-refusal-ne0
unfolding push_far_called
returns-then-refusal-ne0 c = let w = refused _ _ _ _ _ _ c.judge-refusal.ensures c.if-refusal-ne0.true in record { number = number_is w; words = words_are w; envelope = buffers_are w }

pub load-requires : goal.load-requires
load-requires c = state_fits _ c.args.state.now _ _ (sym c.judge-refusal.ensures ∙ c.if-refusal-ne0.false)

pub settle_far-requires : goal.settle_far-requires
settle_far-requires c = state_fits _ c.args.state.now _ _ (sym c.judge-refusal.ensures ∙ c.if-refusal-ne0.false)

pub returns : goal.returns
unfolding push_far_called
returns c = let p = let_pass _ _ _ _ _ _ c.judge-refusal.ensures c.if-refusal-ne0.false in
    record {
      number = cc (c.settle_far.ensures.number, c.change_number.ensures, c.push_far-changed.ensures.changed, c.load.ensures) ∙ number_is p;
      words = cc (c.settle_far.ensures.words, c.change_number.ensures, c.push_far-changed.ensures.changed, c.load.ensures) ∙ words_are p;
      envelope = cc (c.push_far-changed.ensures.envelope, c.load.ensures) ∙ buffers_are p;
    }
