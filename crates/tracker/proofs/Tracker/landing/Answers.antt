-- `Tracker::landing` meets its contract.
use Rattle.answers.proofs.Cases.{cases}
use Rattle.tracker.specs.Cycle.{landing}
use Rattle.tracker.proofs.Tracker.landing.Goals as goal

pub returns-then-delay-alignment : goal.returns-then-delay-alignment
unfolding landing
returns-then-delay-alignment c = search (cases, ← c.saturating_sub.ensures)

pub returns-else-delay-alignment : goal.returns-else-delay-alignment
unfolding landing
returns-else-delay-alignment c = search (cases)
