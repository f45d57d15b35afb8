-- `fine_face::tmv_fine_window_back_off` meets its contract.
use mathlib.Core.Path.{sym, ◌∙◌}
use Rattle.fine.specs.Told.{samples_told}
use Rattle.words.specs.Words.{one_value}
use Rattle.fine.specs.Calls.{window_back_off}
use Rattle.fine_face.specs.Calls.{window_back_off_called}
use Rattle.face.proofs.Order.{state_fits, values_fit}
use Rattle.fine_face.proofs.Reports.{turned_away, reports}
use Rattle.fine_face.proofs.tmv_fine_window_back_off.Goals as goal

pub returns-then-refusal-ne0 : goal.returns-then-refusal-ne0
unfolding window_back_off_called
returns-then-refusal-ne0 c = let parts = turned_away samples_told window_back_off one_value c.args.state.now c.args.values.now c.judge-refusal.ensures c.if-refusal-ne0.true in record { number = parts.0; values = parts.1 }

pub load-requires : goal.load-requires
load-requires c = state_fits _ c.args.state.now _ _ (sym c.judge-refusal.ensures ∙ c.if-refusal-ne0.false)

pub tell_samples-requires : goal.tell_samples-requires
tell_samples-requires c = values_fit _ _ _ c.args.values.now (sym c.judge-refusal.ensures ∙ c.if-refusal-ne0.false)

pub returns : goal.returns
unfolding window_back_off_called
returns c = let parts = reports samples_told window_back_off one_value c.args.state.now c.args.values.now c.judge-refusal.ensures c.if-refusal-ne0.false c.load.ensures c.window_back_off.ensures c.tell_samples.ensures.number c.tell_samples.ensures.values in record { number = parts.0; values = parts.1 }
