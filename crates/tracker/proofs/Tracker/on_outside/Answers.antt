-- `Tracker::on_outside` meets its contract.
use Rattle.answers.proofs.Cases.{cases, picks}
use Rattle.tracker.specs.Cycle.{outside_cycle}
use Rattle.tracker.proofs.Tracker.on_outside.Goals as goal

pub returns-then-confirms : goal.returns-then-confirms
unfolding outside_cycle
returns-then-confirms c = search (cases, ← c.confirms.ensures, c.evidence.ensures, ← c.landing.ensures)

pub returns : goal.returns
unfolding outside_cycle
returns c = simp (picks, c.if-confirms.false, ← c.confirms.ensures, c.evidence-waiting.ensures, ← c.contradicts.ensures, ← c.is_some.ensures, c.escalated.ensures)
