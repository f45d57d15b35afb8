use Rattle.fine.specs.Calls.{frames_of}
use Rattle.fine.proofs.Fine.frames.Goals as goal

pub returns : goal.returns
unfolding frames_of
returns c = cc
