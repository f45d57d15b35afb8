use Rattle.answers.proofs.Cases.{cases}
use Rattle.fine.specs.State.{first_refusals}
use Rattle.fine.proofs.Fine.first_refusals.Goals as goal

pub returns-then-not-allowed_span : goal.returns-then-not-allowed_span
unfolding first_refusals
returns-then-not-allowed_span c = search (cases, ← c.allowed_span.ensures)

pub returns-then-not-fitting : goal.returns-then-not-fitting
unfolding first_refusals
returns-then-not-fitting c = search (cases, ← c.allowed_span.ensures)

pub returns-then-not-keeps_rules : goal.returns-then-not-keeps_rules
unfolding first_refusals
returns-then-not-keeps_rules c = search (cases, ← c.keeps_rules.ensures, ← c.allowed_span.ensures)

pub returns : goal.returns
unfolding first_refusals
returns c = search (cases, ← c.keeps_rules.ensures, ← c.allowed_span.ensures)
