-- `scan_handover::fill::four` meets its contract.
use Prim.Native.Nat.{◌+◌, ◌<◌}
use mathlib.Core.Path.{ap}
use native.Mathlib.Omega.{arith}
use lib.Ieee.{of_bits}
use Rattle.scan_push.specs.declared.sums.FourSums.{FourSums}
use Rattle.scan_handover.proofs.Gathers.{four, stores, four_bins}
use Rattle.scan_handover.proofs.fill.four.Goals as goal
use Rattle.scan_handover.proofs.fill.four.Goals.{Start}

-- the frame has bins for the blocks
bins : (s : Start) → s.args.n.len + 3 < s.args.g.frame
bins s = four_bins s.args.g s.args.n s.args.levels.now s.args.samples.now s.args.index s.requires.all s.requires.all.bounds.some_decimation s.requires.four

pub overflow_add-last : goal.overflow_add-last
overflow_add-last c = let p = c.requires.all in omega (arith, p.small)

pub overflow_sub-last : goal.overflow_sub-last
overflow_sub-last c = let p = c.requires in omega (arith, p.four, p.all.bounds.some_decimation)

pub overflow_add-second : goal.overflow_add-second
overflow_add-second c = omega (arith, bins c.before.before.before.before.before, c.requires.all.bounds.frame)

pub overflow_add-third : goal.overflow_add-third
overflow_add-third c = omega (arith, bins c.before.before.before.before.before, c.requires.all.bounds.frame)

pub overflow_add-fourth : goal.overflow_add-fourth
overflow_add-fourth c = omega (arith, bins c.before.before.before.before.before, c.requires.all.bounds.frame)

pub store-requires : goal.store-requires
store-requires c =
    (c.requires.all.bounds.decimation, omega (arith, bins c.before.before.before.before.before.before, c.requires.all.fit))

pub store-requires-2 : goal.store-requires-2
store-requires-2 c =
    (c.requires.all.bounds.decimation, omega (arith, bins c.before.before.before.before.before.before.before.before.before.before, c.requires.all.fit, c.store.auto))

pub store-requires-3 : goal.store-requires-3
store-requires-3 c =
    (c.requires.all.bounds.decimation, omega (arith, bins c.before.before.before.before.before.before.before.before.before.before.before.before.before.before, c.requires.all.fit, c.store.auto, c.store-2.auto))

pub store-requires-4 : goal.store-requires-4
store-requires-4 c =
    (c.requires.all.bounds.decimation, omega (arith, bins c.before.before.before.before.before.before.before.before.before.before.before.before.before.before.before.before.before.before, c.requires.all.fit, c.store.auto, c.store-2.auto, c.store-3.auto))

pub overflow_add-result : goal.overflow_add-result
overflow_add-result c = omega (arith, bins c.before.before.before.before.before.before.before.before.before.before.before.before.before.before.before.before.before.before.before.before.before, c.requires.all.bounds.frame)

pub shape_of-levels : goal.shape_of-levels
shape_of-levels c = omega (arith, c.store.auto, c.store-2.auto, c.store-3.auto, c.store-4.auto)

pub returns : goal.returns
unfolding of_bits
returns c =
    let a = c.args in
    let p = c.requires in
    let k = four a.g a.samples.now a.n a.levels.now a.index p.start p.all.bounds.some_decimation p.four in
    let s = c.four-sums.ensures in
    let e = stores a.g a.n.len a.levels.now _ _ _ _ _ _ _ _ _ _ _ _ (ap (λ (t : FourSums). t.first) s) (ap (λ (t : FourSums). t.second) s) (ap (λ (t : FourSums). t.third) s) (ap (λ (t : FourSums). t.fourth) s) c.store.ensures c.store-2.ensures c.store-3.ensures c.store-4.ensures in
    record {
      near = rw (k, c.first_bin-first.ensures);
      levels = rw k e;
    }
