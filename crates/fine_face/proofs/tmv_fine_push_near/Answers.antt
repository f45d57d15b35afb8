-- `fine_face::tmv_fine_push_near` meets its contract.
use mathlib.Core.Path.{sym, ap, ◌∙◌}
use Rattle.fine_gate.specs.Gate.{NearPush}
use Rattle.fine_face.specs.Calls.{push_near_called}
use Rattle.face.proofs.Order.{state_fits, refused, let_pass, number_is, words_are, buffers_are}
use Rattle.fine_face.proofs.tmv_fine_push_near.Goals as goal

pub returns-then-refusal-ne0 : goal.returns-then-refusal-ne0
unfolding push_near_called
returns-then-refusal-ne0 c = let w = refused _ _ _ _ _ _ c.judge-refusal.ensures c.if-refusal-ne0.true in record { number = number_is w; words = words_are w; near = buffers_are w }

pub load-requires : goal.load-requires
load-requires c = state_fits _ c.args.state.now _ _ (sym c.judge-refusal.ensures ∙ c.if-refusal-ne0.false)

pub settle-requires : goal.settle-requires
settle-requires c = state_fits _ c.args.state.now _ _ (sym c.judge-refusal.ensures ∙ c.if-refusal-ne0.false)

pub returns : goal.returns
unfolding push_near_called
returns c = let p = let_pass _ _ _ _ _ _ c.judge-refusal.ensures c.if-refusal-ne0.false in
    record {
      number = cc (c.settle.ensures.number, c.taking_number.ensures, ap (λ (g : NearPush). g.took.answer) c.push_near-took.ensures, c.load.ensures) ∙ number_is p;
      words = cc (c.settle.ensures.words, c.taking_number.ensures, ap (λ (g : NearPush). g.took.answer) c.push_near-took.ensures, ap (λ (g : NearPush). g.took.fine) c.push_near-took.ensures, c.load.ensures) ∙ words_are p;
      near = cc (ap (λ (g : NearPush). g.near) c.push_near-took.ensures, c.load.ensures) ∙ buffers_are p;
    }
