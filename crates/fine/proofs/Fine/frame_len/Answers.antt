use Rattle.fine.specs.Calls.{frame_len}
use Rattle.fine.proofs.Fine.frame_len.Goals as goal

pub returns : goal.returns
unfolding frame_len
returns c = cc
