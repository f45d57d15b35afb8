-- `Tracker::on_interior` meets its contract.
use Rattle.answers.proofs.Cases.{cases, picks}
use Rattle.tracker.specs.Cycle.{interior_cycle}
use Rattle.tracker.proofs.Tracker.on_interior.Goals as goal

pub returns-then-outside_bands : goal.returns-then-outside_bands
unfolding interior_cycle
returns-then-outside_bands c = search (cases, ← c.outside_bands.ensures, c.on_outside.ensures)

pub returns : goal.returns
unfolding interior_cycle
returns c = simp (picks, c.if-outside_bands.false, ← c.outside_bands.ensures, c.evidence-settled.ensures, ← c.jumped.ensures, ← c.is_some.ensures, c.escalated.ensures)
