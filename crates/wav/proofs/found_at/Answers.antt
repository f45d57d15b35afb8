-- `wav::found_at` meets its contract.
use Rattle.answers.proofs.Cases.{cases}
use Rattle.wav.proofs.found_at.Goals as goal

pub returns-then-format-eq0 : goal.returns-then-format-eq0
returns-then-format-eq0 c = search (cases)

pub returns : goal.returns
returns c = search (cases)
