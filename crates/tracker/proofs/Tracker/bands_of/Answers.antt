-- `Tracker::bands_of` meets its contract.
use Rattle.tracker.specs.Tracker.{bands_of}
use Rattle.tracker.proofs.Tracker.bands_of.Goals as goal

pub returns : goal.returns
unfolding bands_of
returns c = cc
