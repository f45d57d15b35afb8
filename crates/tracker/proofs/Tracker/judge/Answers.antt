-- `Tracker::judge` meets its contract.
use Rattle.answers.proofs.Cases.{cases}
use Rattle.tracker.specs.Cycle.{judged}
use Rattle.tracker.proofs.Tracker.judge.Goals as goal

pub returns-in-Unconfident : goal.returns-in-Unconfident
unfolding judged
returns-in-Unconfident c = search (cases, c.in-Unconfident.is, c.on_unconfident.ensures)

pub returns-then-interior : goal.returns-then-interior
unfolding judged
returns-then-interior c = search (cases, c.in-Candidate.is, c.on_interior.ensures)

pub returns-else-interior : goal.returns-else-interior
unfolding judged
returns-else-interior c = search (cases, c.in-Candidate.is, c.on_edge.ensures)
