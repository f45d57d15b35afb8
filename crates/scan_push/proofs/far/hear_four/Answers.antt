-- `scan_push::far::hear_four` meets its contract.
use Prim.Native.Nat.{◌≤◌}
use mathlib.Core.Path.{ap}
use native.Mathlib.Omega.{arith}
use lib.Ieee.{of_bits}
use Rattle.answers.specs.Numbers.{limit}
use Rattle.scan_push.proofs.Groups.{four, stores, next_small}
use Rattle.scan_push.specs.declared.sums.FourSums.{FourSums}
use Rattle.scan_push.proofs.far.hear_four.Goals as goal
use Rattle.scan_push.proofs.far.hear_four.Goals.{Start}

-- a block's number is small
small : (s : Start) → s.args.f.next ≤ limit
small s = next_small s.args.g s.args.f s.requires.all.placed s.requires.all.bounds.some_decimation (omega (arith, s.requires.all.room))

pub overflow_add-second : goal.overflow_add-second
overflow_add-second c = record { fits = omega (arith, small c.before.before.before.before.before) }

pub overflow_add-third : goal.overflow_add-third
overflow_add-third c = record { fits = omega (arith, small c.before.before.before.before.before) }

pub overflow_add-fourth : goal.overflow_add-fourth
overflow_add-fourth c = record { fits = omega (arith, small c.before.before.before.before.before) }

pub overflow_add-result : goal.overflow_add-result
overflow_add-result c = record { fits = omega (arith, small c.before.before.before.before.before.before.before.before.before.before.before.before.before.before.before.before.before.before.before.before.before) }

pub returns : goal.returns
unfolding of_bits
returns c =
    let a = c.args in
    let p = c.requires in
    let k = four a.slack a.g a.samples.now a.f a.envelope.now p.start p.all.bounds.some_decimation p.four in
    let s = c.four-sums.ensures in
    let e = stores a.g _ a.f.next a.envelope.now _ _ _ _ _ _ _ _ _ _ _ _ p.all.fit (ap (λ (t : FourSums). t.first) s) (ap (λ (t : FourSums). t.second) s) (ap (λ (t : FourSums). t.third) s) (ap (λ (t : FourSums). t.fourth) s) c.store.ensures c.store-2.ensures c.store-3.ensures c.store-4.ensures in
    record {
      far = rw k;
      envelope = rw k e;
    }
