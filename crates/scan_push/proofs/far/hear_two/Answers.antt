-- `scan_push::far::hear_two` meets its contract: the second block is begun, or completed too.
use Prim.Native.Nat.{◌-◌, ◌≤◌}
use mathlib.Core.Path.{ap}
use native.Mathlib.Omega.{arith}
use lib.ListN.{length}
use lib.Ieee.{of_bits}
use Rattle.answers.specs.Numbers.{limit}
use Rattle.scan_push.proofs.Groups.{into_second, ends_second, store_one, store_two, next_small}
use Rattle.scan_push.specs.declared.sums.TwoSums.{TwoSums}
use Rattle.scan_push.proofs.far.hear_two.Goals as goal
use Rattle.scan_push.proofs.far.hear_two.Goals.{Start}

-- a block's number is small
small : (s : Start) → s.args.f.next ≤ limit
small s = next_small s.args.g s.args.f s.requires.all.placed s.requires.all.bounds.some_decimation (omega (arith, s.requires.all.room))

pub overflow_add-after : goal.overflow_add-after
overflow_add-after c = record { fits = omega (arith, small c.before.before.before.before.before.before.before.before) }

pub returns-then-count-g : goal.returns-then-count-g
returns-then-count-g c =
    let a = c.args in
    let p = c.requires in
    let r = a.g.decimation - a.f.count in
    let k = into_second a.slack a.g a.samples.now a.f a.envelope.now r (length a.samples.now - r) p.all.placed.partial (omega (arith, p.all.placed.partial)) (omega (arith, p.one)) (omega (arith, p.two, p.one, p.all.placed.partial, c.if-count-g.true)) in
    let s = c.two-sums.ensures in
    let e = store_one a.g _ a.f.next a.envelope.now _ _ _ p.all.fit (ap (λ (t : TwoSums). t.first) s) c.store.ensures in
    record {
      far = rw (k, ap (λ (t : TwoSums). t.second) s);
      envelope = rw k e;
    }

pub overflow_add-result : goal.overflow_add-result
overflow_add-result c = record { fits = omega (arith, small c.before.before.before.before.before.before.before.before.before.before.before.before.before.before.before.before.before.before) }

pub returns : goal.returns
unfolding of_bits
returns c =
    let a = c.args in
    let p = c.requires in
    let r = a.g.decimation - a.f.count in
    let k = ends_second a.slack a.g a.samples.now a.f a.envelope.now r (length a.samples.now - r) p.all.placed.partial (omega (arith, p.all.placed.partial)) (omega (arith, p.one)) c.if-count-g.false in
    let s = c.two-sums.ensures in
    let e = store_two a.g _ a.f.next a.envelope.now _ _ _ _ _ _ p.all.fit (ap (λ (t : TwoSums). t.first) s) (ap (λ (t : TwoSums). t.second) s) c.store.ensures c.store-2.ensures in
    record {
      far = rw k;
      envelope = rw k e;
    }
