-- `Tracker::contradicts` meets its contract.
use Rattle.answers.proofs.Cases.{cases}
use Rattle.tracker.specs.Cycle.{contradicts}
use Rattle.tracker.proofs.Tracker.contradicts.Goals as goal

pub returns-then-jumped : goal.returns-then-jumped
unfolding contradicts
returns-then-jumped c = search (cases, ← c.jumped.ensures)

pub returns-else-jumped : goal.returns-else-jumped
unfolding contradicts
returns-else-jumped c = search (cases, ← c.jumped.ensures, ← c.is_some.ensures)
