-- `scan_panel_reports_face::tmv_panel_region` meets its contract.
use mathlib.Core.Path.{sym, ◌∙◌}
use Rattle.scan_panel_reports_face.specs.Calls.{panel_region_called}
use Rattle.face.proofs.Order.{state_fits, values_fit, refused, let_pass, number_is, values_are}
use Rattle.scan_words.specs.Layout.{scan_words}
use mathlib.Core.Path.{◌≡◌}
use lib.ListN.{length}
use native.Mathlib.Omega.{arith}
use Rattle.scan_panel_reports_face.proofs.tmv_panel_region.Goals as goal

pub returns-then-refusal-ne0 : goal.returns-then-refusal-ne0
unfolding panel_region_called
returns-then-refusal-ne0 c = let w = refused _ _ _ _ _ _ c.judge-refusal.ensures c.if-refusal-ne0.true in record { number = number_is w; values = values_are w }

pub bounds-state-21 : goal.bounds-state-21
bounds-state-21 c = let h : length c.args.state.now ≡ scan_words = state_fits _ c.args.state.now _ _ (sym c.judge-refusal.ensures ∙ c.if-refusal-ne0.false) in omega arith

pub load-requires : goal.load-requires
load-requires c = state_fits _ c.args.state.now _ _ (sym c.judge-refusal.ensures ∙ c.if-refusal-ne0.false)

pub tell_region-requires : goal.tell_region-requires
tell_region-requires c = values_fit _ _ _ c.args.values.now (sym c.judge-refusal.ensures ∙ c.if-refusal-ne0.false)

pub returns : goal.returns
unfolding panel_region_called
returns c = let p = let_pass _ _ _ _ _ _ c.judge-refusal.ensures c.if-refusal-ne0.false in
    record {
      number = cc (c.tell_region.ensures.number, c.region.ensures, c.load.ensures) ∙ number_is p;
      values = cc (c.tell_region.ensures.values, c.region.ensures, c.load.ensures) ∙ values_are p;
    }
