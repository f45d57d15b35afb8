-- `scan_panel_reports_face::tmv_panel_frames` meets its contract.
use mathlib.Core.Path.{sym, ◌∙◌}
use Rattle.scan_panel_reports_face.specs.Calls.{panel_frames_called}
use Rattle.face.proofs.Order.{state_fits, values_fit, refused, let_pass, number_is, values_are}
use Rattle.scan_panel_reports_face.proofs.tmv_panel_frames.Goals as goal

pub returns-then-refusal-ne0 : goal.returns-then-refusal-ne0
unfolding panel_frames_called
returns-then-refusal-ne0 c = let w = refused _ _ _ _ _ _ c.judge-refusal.ensures c.if-refusal-ne0.true in record { number = number_is w; values = values_are w }

pub load-requires : goal.load-requires
load-requires c = state_fits _ c.args.state.now _ _ (sym c.judge-refusal.ensures ∙ c.if-refusal-ne0.false)

pub tell_count-requires : goal.tell_count-requires
tell_count-requires c = values_fit _ _ _ c.args.values.now (sym c.judge-refusal.ensures ∙ c.if-refusal-ne0.false)

pub returns : goal.returns
unfolding panel_frames_called
returns c = let p = let_pass _ _ _ _ _ _ c.judge-refusal.ensures c.if-refusal-ne0.false in
    record {
      number = cc (c.tell_count.ensures.number, c.frames.ensures, c.load.ensures) ∙ number_is p;
      values = cc (c.tell_count.ensures.values, c.frames.ensures, c.load.ensures) ∙ values_are p;
    }
