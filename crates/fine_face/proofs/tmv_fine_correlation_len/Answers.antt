-- `fine_calls::tmv_fine_correlation_len` meets its contract.
use Rattle.answers.proofs.Cases.{cases}
use Rattle.fine_face.proofs.tmv_fine_correlation_len.Goals as goal

pub returns-then-not-allowed_span : goal.returns-then-not-allowed_span
returns-then-not-allowed_span c = search (cases, ← c.allowed_span.ensures)

pub returns : goal.returns
returns c = search (cases, ← c.allowed_span.ensures)
