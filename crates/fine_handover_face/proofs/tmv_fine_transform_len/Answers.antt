-- `fine_handover_face::tmv_fine_transform_len` meets its contract.
use Rattle.answers.proofs.Cases.{cases}
use mathlib.Core.Path.{◌∙◌, sym, ap}
use Rattle.answers.specs.Pick.{pick_true}
use Rattle.fine.specs.State.{lengths_of}
use Rattle.fine.specs.declared.Lengths.{Lengths}
use Rattle.fine_handover_face.proofs.tmv_fine_transform_len.Goals as goal

pub returns-then-not-allowed_span : goal.returns-then-not-allowed_span
returns-then-not-allowed_span c = search (cases, ← c.allowed_span.ensures)

pub returns : goal.returns
unfolding lengths_of
returns c = ap (λ (l : Lengths). l.transform) c.of-lengths.ensures ∙ sym (pick_true _ _ _ (search (cases, ← c.allowed_span.ensures)))
