-- `fine_face::tmv_fine_search_range` meets its contract.
use mathlib.Core.Path.{sym, ◌∙◌}
use Rattle.fine.specs.Told.{range_told}
use Rattle.fine_words.specs.Answers.{range_values}
use Rattle.fine.specs.Calls.{search_range}
use Rattle.fine_face.specs.Calls.{search_range_called}
use Rattle.face.proofs.Order.{state_fits, values_fit}
use Rattle.fine_face.proofs.Reports.{turned_away, reports}
use Rattle.fine_face.proofs.tmv_fine_search_range.Goals as goal

pub returns-then-refusal-ne0 : goal.returns-then-refusal-ne0
unfolding search_range_called
returns-then-refusal-ne0 c = let parts = turned_away range_told search_range range_values c.args.state.now c.args.values.now c.judge-refusal.ensures c.if-refusal-ne0.true in record { number = parts.0; values = parts.1 }

pub load-requires : goal.load-requires
load-requires c = state_fits _ c.args.state.now _ _ (sym c.judge-refusal.ensures ∙ c.if-refusal-ne0.false)

pub tell_range-requires : goal.tell_range-requires
tell_range-requires c = values_fit _ _ _ c.args.values.now (sym c.judge-refusal.ensures ∙ c.if-refusal-ne0.false)

pub returns : goal.returns
unfolding search_range_called
returns c = let parts = reports range_told search_range range_values c.args.state.now c.args.values.now c.judge-refusal.ensures c.if-refusal-ne0.false c.load.ensures c.search_range.ensures c.tell_range.ensures.number c.tell_range.ensures.values in record { number = parts.0; values = parts.1 }
