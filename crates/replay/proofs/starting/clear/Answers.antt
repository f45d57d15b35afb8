-- `starting::clear` meets its contract: buffer by buffer.
use Rattle.replay.proofs.starting.clear.Goals as goal

pub returns : goal.returns
returns c = rw (c.clear32.ensures, c.clear32-2.ensures, c.clear32-3.ensures, c.clear64.ensures, c.clear64-2.ensures, c.clear64-3.ensures, c.clear64-4.ensures)
