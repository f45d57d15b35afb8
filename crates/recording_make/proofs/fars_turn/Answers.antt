-- `recording_make::fars_turn` meets its contract.
use Rattle.answers.proofs.Cases.{cases}
use Rattle.recording_make.specs.Making.{fars_turn}
use Rattle.recording_make.proofs.fars_turn.Goals as goal

pub returns-then-h-used : goal.returns-then-h-used
unfolding fars_turn
returns-then-h-used c = search (cases)

pub returns-then-used : goal.returns-then-used
unfolding fars_turn
returns-then-used c = search (cases)

pub returns : goal.returns
unfolding fars_turn
returns c = search (cases)
