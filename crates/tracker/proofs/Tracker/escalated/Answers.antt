-- `Tracker::escalated` meets its contract.
use Rattle.answers.proofs.Cases.{cases}
use Rattle.tracker.specs.Cycle.{escalated}
use Rattle.tracker.proofs.Tracker.escalated.Goals as goal
use Rattle.tracker.proofs.Tracker.escalated.Goals.{then-had_prev, else-had_prev}

pub returns-then-contradicted : goal.returns-then-contradicted
unfolding escalated
returns-then-contradicted c = search (cases, ← c.saturating_add-run.ensures, c.with_jumps-tracker.ensures, c.at_limit.ensures)

pub returns : goal.returns
unfolding escalated
returns c =
    elim c.if-had_prev.branch [
      | then-had_prev w ↦ search (cases, c.with_jumps.ensures, w.run-is)
      | else-had_prev w ↦ search (cases, c.with_jumps.ensures, w.run-is)
    ]
