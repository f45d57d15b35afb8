use Rattle.answers.proofs.Cases.{cases}
use Rattle.fine.specs.Calls.{made, making_refusal, changed}
use Rattle.fine.proofs.Fine.new.Goals as goal

pub returns-then-not-allowed_span : goal.returns-then-not-allowed_span
unfolding made making_refusal changed
returns-then-not-allowed_span c = search (cases, c.new_with.ensures, c.of.ensures, ← c.allowed_span.ensures)

pub returns : goal.returns
unfolding made making_refusal changed
returns c = search (cases, c.new_with-2.ensures, c.of-2.ensures, ← c.allowed_span.ensures)
