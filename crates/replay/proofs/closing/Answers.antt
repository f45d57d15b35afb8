-- `closing` meets its contract: by whether all samples were used.
use Rattle.answers.proofs.Cases.{cases}
use Rattle.replay.specs.Log.{closing}
use Rattle.replay.proofs.closing.Goals as goal

pub returns-then-not-all_used : goal.returns-then-not-all_used
unfolding closing
returns-then-not-all_used c = search (cases, ← c.all_used.ensures)

pub returns : goal.returns
unfolding closing
returns c = search (cases, ← c.all_used.ensures)
