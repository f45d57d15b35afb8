-- `wav::format_past` meets its contract.
use Rattle.answers.proofs.Cases.{cases}
use Rattle.wav.proofs.format_past.Goals as goal

pub returns-then-id-eq-FORMAT : goal.returns-then-id-eq-FORMAT
returns-then-id-eq-FORMAT c = search (cases)

pub returns : goal.returns
returns c = search (cases)
