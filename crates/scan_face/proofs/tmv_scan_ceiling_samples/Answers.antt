-- `scan_face::tmv_scan_ceiling_samples` meets its contract.
use mathlib.Core.Path.{sym, ◌∙◌}
use Rattle.scan_face.specs.Calls.{ceiling_samples_called}
use Rattle.face.proofs.Order.{state_fits, values_fit, refused, let_pass, number_is, values_are}
use Rattle.scan_face.proofs.tmv_scan_ceiling_samples.Goals as goal

pub returns-then-refusal-ne0 : goal.returns-then-refusal-ne0
unfolding ceiling_samples_called
returns-then-refusal-ne0 c = let w = refused _ _ _ _ _ _ c.judge-refusal.ensures c.if-refusal-ne0.true in record { number = number_is w; values = values_are w }

pub load-requires : goal.load-requires
load-requires c = state_fits _ c.args.state.now _ _ (sym c.judge-refusal.ensures ∙ c.if-refusal-ne0.false)

pub tell_samples-requires : goal.tell_samples-requires
tell_samples-requires c = values_fit _ _ _ c.args.values.now (sym c.judge-refusal.ensures ∙ c.if-refusal-ne0.false)

pub returns : goal.returns
unfolding ceiling_samples_called
returns c = let p = let_pass _ _ _ _ _ _ c.judge-refusal.ensures c.if-refusal-ne0.false in
    record {
      number = cc (c.tell_samples.ensures.number, c.ceiling_samples.ensures, c.load.ensures) ∙ number_is p;
      values = cc (c.tell_samples.ensures.values, c.ceiling_samples.ensures, c.load.ensures) ∙ values_are p;
    }
