use Rattle.answers.proofs.Cases.{cases}
use Rattle.fine.specs.Calls.{relocate_refusal}
use Rattle.fine.proofs.Fine.relocate_refusal.Goals as goal

pub returns-then-earlier-ne0 : goal.returns-then-earlier-ne0
unfolding relocate_refusal
returns-then-earlier-ne0 c = search (cases, ← c.refusal-earlier.ensures)

pub returns-then-origin-ge-LIMIT : goal.returns-then-origin-ge-LIMIT
unfolding relocate_refusal
returns-then-origin-ge-LIMIT c = search (cases, ← c.refusal-earlier.ensures)

pub returns : goal.returns
unfolding relocate_refusal
returns c = search (cases, ← c.refusal-earlier.ensures)
