-- `Tracker::on_cycle` meets its contract.
use Rattle.answers.proofs.Cases.{cases}
use Rattle.tracker.specs.Cycle.{cycled}
use Rattle.tracker.proofs.Tracker.on_cycle.Goals as goal

pub returns-then-refusal-ne0 : goal.returns-then-refusal-ne0
unfolding cycled
returns-then-refusal-ne0 c = search (cases, ← c.cycle_refusal-refusal.ensures)

pub returns : goal.returns
unfolding cycled
returns c = search (cases, ← c.cycle_refusal-refusal.ensures, c.judge.ensures)
