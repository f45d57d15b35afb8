-- `near_cut` meets its contract: the cut is that of the decoded samples.
use Rattle.replay_near.proofs.Decoding.{first_filled}
use Rattle.replay_near.proofs.near_cut.Goals as goal

pub shape_of-samples : goal.shape_of-samples
shape_of-samples c =
    c.decode_first.auto.samples

pub returns : goal.returns
returns c =
    rw (first_filled _ _ _ _ _ c.decode_first.ensures) at c.near_line.ensures
