-- `recording_make::plan_of` meets its contract.
use Rattle.answers.proofs.Cases.{cases}
use Rattle.recording_make.proofs.plan_of.Goals as goal

pub returns : goal.returns
returns c = search (cases, ← c.events_of.ensures.0, ← c.events_of-2.ensures.0)
