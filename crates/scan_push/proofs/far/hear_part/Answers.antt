-- `scan_push::far::hear_part` meets its contract: the samples complete the block, or go on with it.
use Prim.Native.Nat.{◌≤◌}
use native.Mathlib.Omega.{arith}
use lib.Ieee.{of_bits}
use Rattle.answers.specs.Numbers.{limit}
use Rattle.scan_push.proofs.Groups.{goes, ends_block, next_small}
use Rattle.scan_push.proofs.far.hear_part.Goals as goal
use Rattle.scan_push.proofs.far.hear_part.Goals.{Start}

-- a block's number is small
small : (s : Start) → s.args.f.next ≤ limit
small s = next_small s.args.g s.args.f s.requires.all.placed s.requires.all.bounds.some_decimation (omega (arith, s.requires.all.room))

pub returns-then-count-g : goal.returns-then-count-g
returns-then-count-g c =
    let a = c.args in
    let k = goes a.slack a.g a.samples.now a.f a.envelope.now (omega (arith, c.requires.part, c.if-count-g.true)) in
    record {
      far = rw (k, c.run-sum.ensures);
      envelope = rw k;
    }

pub overflow_add-next : goal.overflow_add-next
overflow_add-next c = record { fits = omega (arith, small c.before.before.before.before.before.before.before.before) }

pub returns : goal.returns
unfolding of_bits
returns c =
    let a = c.args in
    let p = c.requires in
    let k = ends_block a.slack a.g a.samples.now a.f a.envelope.now p.all.placed.partial c.if-count-g.false in
    record {
      far = rw k;
      envelope = rw (k, c.store.ensures, p.all.fit, c.run-sum.ensures);
    }
