-- `push_far` meets its contract: the samples that are pushed are those decoded.
use native.Mathlib.Omega.{arith}
use Rattle.replay_near.proofs.Decoding.{first_filled}
use Rattle.replay_entry.proofs.push_far.Goals as goal

pub overflow_add-used : goal.overflow_add-used
overflow_add-used c =
    omega (arith, c.requires.2)

pub changed-requires : goal.changed-requires
changed-requires c =
    c.requires.0

pub shape_of-samples : goal.shape_of-samples
shape_of-samples c =
    c.decode_first.auto.samples

pub returns : goal.returns
returns c =
    let s = first_filled _ _ _ _ _ c.decode_first.ensures in
    record {
      turns = rw (c.changed.ensures, c.push_whole-change.ensures.changed, s, c.bytes_of-size.ensures);
      leaves = rw s at c.push_whole-change.ensures.envelope;
    }
