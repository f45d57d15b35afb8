-- `wav::judged` meets its contract: tag by tag.
use Rattle.answers.proofs.Cases.{cases}
use Rattle.wav.specs.Wave.{judged}
use Rattle.wav.proofs.judged.Goals as goal

pub returns-then-f-eq1 : goal.returns-then-f-eq1
unfolding judged
returns-then-f-eq1 c = search (cases, ← c.sound_of.ensures)

pub returns-then-f-eq3 : goal.returns-then-f-eq3
unfolding judged
returns-then-f-eq3 c = search (cases, ← c.sound_of-then-f-eq3.ensures)

pub returns : goal.returns
unfolding judged
returns c = search (cases)
