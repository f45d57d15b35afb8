-- `fine_calls::tmv_fine_frame_len` meets its contract.
use Rattle.answers.proofs.Cases.{cases}
use mathlib.Core.Path.{◌∙◌, sym}
use Rattle.answers.specs.Pick.{pick_true}
use Rattle.fine.proofs.Laws.{due_frame}
use Rattle.fine_face.proofs.tmv_fine_frame_len.Goals as goal

pub returns-then-not-allowed_span : goal.returns-then-not-allowed_span
returns-then-not-allowed_span c = search (cases, ← c.allowed_span.ensures)

pub returns : goal.returns
returns c = due_frame _ _ c.of-lengths.ensures ∙ sym (pick_true _ _ _ (search (cases, ← c.allowed_span.ensures)))
