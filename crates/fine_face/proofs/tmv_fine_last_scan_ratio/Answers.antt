-- `fine_face::tmv_fine_last_scan_ratio` meets its contract.
use mathlib.Core.Path.{sym, ◌∙◌}
use Rattle.fine_face.specs.Calls.{last_scan_ratio_called}
use Rattle.face.proofs.Order.{state_fits, values_fit, refused, let_pass, number_is, values_are}
use Rattle.fine_words.specs.Layout.{fine_words}
use mathlib.Core.Path.{◌≡◌}
use lib.ListN.{length}
use native.Mathlib.Omega.{arith}
use Rattle.fine_face.proofs.tmv_fine_last_scan_ratio.Goals as goal

pub returns-then-refusal-ne0 : goal.returns-then-refusal-ne0
unfolding last_scan_ratio_called
returns-then-refusal-ne0 c = let w = refused _ _ _ _ _ _ c.judge-refusal.ensures c.if-refusal-ne0.true in record { number = number_is w; values = values_are w }

pub bounds-state-9 : goal.bounds-state-9
bounds-state-9 c = let h : length c.args.state.now ≡ fine_words = state_fits _ c.args.state.now _ _ (sym c.judge-refusal.ensures ∙ c.if-refusal-ne0.false) in omega arith

pub load-requires : goal.load-requires
load-requires c = state_fits _ c.args.state.now _ _ (sym c.judge-refusal.ensures ∙ c.if-refusal-ne0.false)

pub tell_ratio-requires : goal.tell_ratio-requires
tell_ratio-requires c = values_fit _ _ _ c.args.values.now (sym c.judge-refusal.ensures ∙ c.if-refusal-ne0.false)

pub returns : goal.returns
unfolding last_scan_ratio_called
returns c = let p = let_pass _ _ _ _ _ _ c.judge-refusal.ensures c.if-refusal-ne0.false in
    record {
      number = cc (c.tell_ratio.ensures.number, c.last_scan_ratio.ensures, c.load.ensures) ∙ number_is p;
      values = cc (c.tell_ratio.ensures.values, c.last_scan_ratio.ensures, c.load.ensures) ∙ values_are p;
    }
