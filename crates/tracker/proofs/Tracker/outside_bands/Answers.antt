-- `Tracker::outside_bands` meets its contract.
use Rattle.answers.proofs.Cases.{cases}
use Rattle.tracker.specs.Cycle.{outside_bands}
use Rattle.tracker.proofs.Tracker.outside_bands.Goals as goal

pub returns-then-saturating_sub-self : goal.returns-then-saturating_sub-self
unfolding outside_bands
returns-then-saturating_sub-self c = search (cases, ← c.saturating_sub.ensures)

pub returns-else-saturating_sub-self : goal.returns-else-saturating_sub-self
unfolding outside_bands
returns-else-saturating_sub-self c =
    search (cases, ← c.saturating_sub.ensures, ← c.saturating_sub-else-saturating_sub-self.ensures)
