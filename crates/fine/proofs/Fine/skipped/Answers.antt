use Rattle.fine.specs.Calls.{skipped_of}
use Rattle.fine.proofs.Fine.skipped.Goals as goal

pub returns : goal.returns
unfolding skipped_of
returns c = cc
