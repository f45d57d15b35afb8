-- `fine_face::tmv_fine_state_frame_len` meets its contract.
use mathlib.Core.Path.{sym, ◌∙◌}
use Rattle.fine.specs.Told.{samples_told}
use Rattle.words.specs.Words.{one_value}
use Rattle.fine.specs.Calls.{frame_len}
use Rattle.fine_face.specs.Calls.{state_frame_len_called}
use Rattle.face.proofs.Order.{state_fits, values_fit}
use Rattle.fine_face.proofs.Reports.{turned_away, reports}
use Rattle.fine_face.proofs.tmv_fine_state_frame_len.Goals as goal

pub returns-then-refusal-ne0 : goal.returns-then-refusal-ne0
unfolding state_frame_len_called
returns-then-refusal-ne0 c = let parts = turned_away samples_told frame_len one_value c.args.state.now c.args.values.now c.judge-refusal.ensures c.if-refusal-ne0.true in record { number = parts.0; values = parts.1 }

pub load-requires : goal.load-requires
load-requires c = state_fits _ c.args.state.now _ _ (sym c.judge-refusal.ensures ∙ c.if-refusal-ne0.false)

pub tell_samples-requires : goal.tell_samples-requires
tell_samples-requires c = values_fit _ _ _ c.args.values.now (sym c.judge-refusal.ensures ∙ c.if-refusal-ne0.false)

pub returns : goal.returns
unfolding state_frame_len_called
returns c = let parts = reports samples_told frame_len one_value c.args.state.now c.args.values.now c.judge-refusal.ensures c.if-refusal-ne0.false c.load.ensures c.frame_len.ensures c.tell_samples.ensures.number c.tell_samples.ensures.values in record { number = parts.0; values = parts.1 }
