-- `fine_calls::tmv_fine_window_len` meets its contract.
use Rattle.answers.proofs.Cases.{cases}
use mathlib.Core.Path.{◌∙◌, sym}
use Rattle.answers.specs.Pick.{pick_true}
use Rattle.fine.proofs.Laws.{due_window, due_window_fits}
use Rattle.fine_face.proofs.tmv_fine_window_len.Goals as goal

pub returns-then-not-allowed_span : goal.returns-then-not-allowed_span
returns-then-not-allowed_span c = search (cases, ← c.allowed_span.ensures)

pub overflow_add-result : goal.overflow_add-result
overflow_add-result c = due_window_fits _ _ c.of-lengths.ensures c.ranges.span

pub returns : goal.returns
returns c = due_window _ _ c.of-lengths.ensures ∙ sym (pick_true _ _ _ (search (cases, ← c.allowed_span.ensures)))
