-- `Tracker::on_unconfident` meets its contract.
use Rattle.answers.proofs.Cases.{cases}
use Rattle.tracker.specs.Cycle.{unconfident_cycle}
use Rattle.tracker.proofs.Tracker.on_unconfident.Goals as goal

pub returns-then-suspect : goal.returns-then-suspect
unfolding unconfident_cycle
returns-then-suspect c = search (cases, ← c.saturating_add-run.ensures, c.evidence-tracker.ensures, c.at_limit-verdict.ensures)

pub returns-else-suspect : goal.returns-else-suspect
unfolding unconfident_cycle
returns-else-suspect c = search (cases, ← c.saturating_add-run.ensures, c.evidence-tracker.ensures, c.at_limit-verdict-else-suspect.ensures)
