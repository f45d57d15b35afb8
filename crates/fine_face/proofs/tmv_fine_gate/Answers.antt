-- `fine_face::tmv_fine_gate` meets its contract.
use mathlib.Core.Path.{sym, ap, ◌∙◌}
use Rattle.fine_gate.specs.Gate.{Gating}
use Rattle.fine_face.specs.Calls.{gate_called}
use Rattle.face.proofs.Order.{state_fits, refused, let_pass, number_is, words_are, buffers_are}
use Rattle.fine_face.proofs.tmv_fine_gate.Goals as goal

pub returns-then-refusal-ne0 : goal.returns-then-refusal-ne0
unfolding gate_called
returns-then-refusal-ne0 c = let w = refused _ _ _ _ _ _ c.judge-refusal.ensures c.if-refusal-ne0.true in record { number = number_is w; words = words_are w; retained = buffers_are w }

pub load-requires : goal.load-requires
load-requires c = state_fits _ c.args.state.now _ _ (sym c.judge-refusal.ensures ∙ c.if-refusal-ne0.false)

pub settle-requires : goal.settle-requires
settle-requires c = state_fits _ c.args.state.now _ _ (sym c.judge-refusal.ensures ∙ c.if-refusal-ne0.false)

pub returns : goal.returns
unfolding gate_called
returns c = let p = let_pass _ _ _ _ _ _ c.judge-refusal.ensures c.if-refusal-ne0.false in
    record {
      number = cc (c.settle.ensures.number, c.gate_number.ensures, ap (λ (g : Gating). g.gated.answer) c.gate-gated.ensures, c.load.ensures) ∙ number_is p;
      words = cc (c.settle.ensures.words, c.gate_number.ensures, ap (λ (g : Gating). g.gated.answer) c.gate-gated.ensures, ap (λ (g : Gating). g.gated.fine) c.gate-gated.ensures, c.load.ensures) ∙ words_are p;
      retained = cc (ap (λ (g : Gating). g.retained) c.gate-gated.ensures, c.load.ensures) ∙ buffers_are p;
    }
