use Rattle.fine.specs.State.{lengths_of}
use Rattle.fine.proofs.Lengths.of.Goals as goal

pub returns : goal.returns
unfolding lengths_of
returns c = cc
