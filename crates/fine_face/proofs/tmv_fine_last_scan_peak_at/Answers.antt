-- `fine_face::tmv_fine_last_scan_peak_at` meets its contract.
use mathlib.Core.Path.{sym, ◌∙◌}
use Rattle.fine.specs.Told.{position_told}
use Rattle.fine_words.specs.Answers.{place_values}
use Rattle.fine.specs.Calls.{last_scan_peak_at}
use Rattle.fine_face.specs.Calls.{last_scan_peak_at_called}
use Rattle.face.proofs.Order.{state_fits, values_fit}
use Rattle.fine_face.proofs.Reports.{turned_away, reports}
use Rattle.fine_face.proofs.tmv_fine_last_scan_peak_at.Goals as goal

pub returns-then-refusal-ne0 : goal.returns-then-refusal-ne0
unfolding last_scan_peak_at_called
returns-then-refusal-ne0 c = let parts = turned_away position_told last_scan_peak_at place_values c.args.state.now c.args.values.now c.judge-refusal.ensures c.if-refusal-ne0.true in record { number = parts.0; values = parts.1 }

pub load-requires : goal.load-requires
load-requires c = state_fits _ c.args.state.now _ _ (sym c.judge-refusal.ensures ∙ c.if-refusal-ne0.false)

pub tell_position-requires : goal.tell_position-requires
tell_position-requires c = values_fit _ _ _ c.args.values.now (sym c.judge-refusal.ensures ∙ c.if-refusal-ne0.false)

pub returns : goal.returns
unfolding last_scan_peak_at_called
returns c = let parts = reports position_told last_scan_peak_at place_values c.args.state.now c.args.values.now c.judge-refusal.ensures c.if-refusal-ne0.false c.load.ensures c.last_scan_peak_at.ensures c.tell_position.ensures.number c.tell_position.ensures.values in record { number = parts.0; values = parts.1 }
