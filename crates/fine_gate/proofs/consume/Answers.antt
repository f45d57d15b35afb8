use Rattle.answers.proofs.Cases.{cases}
use Rattle.fine_gate.proofs.consume.Goals as goal

pub returns-in-Skipped : goal.returns-in-Skipped
returns-in-Skipped c = search (cases, c.in-Skipped.is, c.saturating_add.ensures)

pub returns-in-Silent : goal.returns-in-Silent
returns-in-Silent c = search (cases, c.in-Silent.is)

pub returns-in-Taken : goal.returns-in-Taken
returns-in-Taken c = search (cases, c.in-Taken.is, c.saturating_add-in-Taken.ensures)
