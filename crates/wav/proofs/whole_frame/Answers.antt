-- `wav::whole_frame` meets its contract.
use Rattle.answers.proofs.Cases.{cases}
use Rattle.wav.specs.Wave.{whole_frame}
use Rattle.wav.proofs.whole_frame.Goals as goal

pub returns-then-channels-eq0 : goal.returns-then-channels-eq0
unfolding whole_frame
returns-then-channels-eq0 c = search (cases)

pub returns : goal.returns
unfolding whole_frame
returns c = search (cases, ← c.frame_of.ensures)
