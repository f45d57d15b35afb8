-- `Tracker::new` meets its contract.
use Rattle.answers.proofs.Cases.{cases}
use Rattle.tracker.specs.Tracker.{made}
use Rattle.tracker.proofs.Tracker.new.Goals as goal

pub returns-then-allowed_rate : goal.returns-then-allowed_rate
unfolding made
returns-then-allowed_rate c = search (cases, ← c.allowed_rate.ensures, c.fresh.ensures)

pub returns : goal.returns
unfolding made
returns c = search (cases, ← c.allowed_rate.ensures, c.fresh-2.ensures)
