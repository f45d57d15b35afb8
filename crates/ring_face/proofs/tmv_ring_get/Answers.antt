-- `ring_face::tmv_ring_get` meets its contract.
use mathlib.Core.Path.{sym, ◌∙◌}
use Rattle.ring_face.specs.Calls.{get_called}
use Rattle.face.proofs.Order.{state_fits, values_fit, refused, let_pass, number_is, values_are}
use Rattle.ring_face.proofs.tmv_ring_get.Goals as goal

pub returns-then-refusal-ne0 : goal.returns-then-refusal-ne0
unfolding get_called
returns-then-refusal-ne0 c = let w = refused _ _ _ _ _ _ c.judge-refusal.ensures c.if-refusal-ne0.true in record { number = number_is w; values = values_are w }

pub load-requires : goal.load-requires
load-requires c = state_fits _ c.args.state.now _ _ (sym c.judge-refusal.ensures ∙ c.if-refusal-ne0.false)

pub tell_kept-requires : goal.tell_kept-requires
tell_kept-requires c = values_fit _ _ _ c.args.values.now (sym c.judge-refusal.ensures ∙ c.if-refusal-ne0.false)

pub returns : goal.returns
unfolding get_called
returns c = let p = let_pass _ _ _ _ _ _ c.judge-refusal.ensures c.if-refusal-ne0.false in
    record {
      number = cc (c.tell_kept.ensures.number, c.get.ensures, c.load.ensures) ∙ number_is p;
      values = cc (c.tell_kept.ensures.values, c.get.ensures, c.load.ensures) ∙ values_are p;
    }
