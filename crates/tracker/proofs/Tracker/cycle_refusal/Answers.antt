-- `Tracker::cycle_refusal` meets its contract.
use Rattle.answers.proofs.Cases.{cases}
use Rattle.tracker.specs.Cycle.{cycle_refusal}
use Rattle.tracker.proofs.Tracker.cycle_refusal.Goals as goal

pub returns-then-earlier-ne0 : goal.returns-then-earlier-ne0
unfolding cycle_refusal
returns-then-earlier-ne0 c = search (cases, ← c.refusal-earlier.ensures)

pub returns-then-alignment-ge-LIMIT : goal.returns-then-alignment-ge-LIMIT
unfolding cycle_refusal
returns-then-alignment-ge-LIMIT c = search (cases, ← c.refusal-earlier.ensures)

pub returns-in-Unconfident : goal.returns-in-Unconfident
unfolding cycle_refusal
returns-in-Unconfident c = search (cases, ← c.refusal-earlier.ensures, c.in-Unconfident.is)

pub returns-then-delay-lt-LIMIT : goal.returns-then-delay-lt-LIMIT
unfolding cycle_refusal
returns-then-delay-lt-LIMIT c = search (cases, ← c.refusal-earlier.ensures, c.in-Candidate.is)

pub returns-else-delay-lt-LIMIT : goal.returns-else-delay-lt-LIMIT
unfolding cycle_refusal
returns-else-delay-lt-LIMIT c = search (cases, ← c.refusal-earlier.ensures, c.in-Candidate.is)
