-- `scan_handover::fill::all` meets its contract: the invariant is `Going`.
use Prim.Native.Nat.{ℕ}
use mathlib.Core.Path.{◌≡◌, refl, sym, subst}
use native.Mathlib.Omega.{arith}
use lib.ListN.{length}
use Rattle.std.proofs.lemmas.Bool.Decides.{nat_tests}
use Rattle.scan_handover.specs.Ready.{NearShaped}
use Rattle.scan_handover.proofs.Gathers.{starts, ends, part_ready, part_gathered}
use Rattle.scan_handover.proofs.fill.all.Goals as goal

pub loop-rest-init : goal.loop-rest-init
loop-rest-init c =
    (refl, starts c.args.g (record { near = c.args.near; levels = c.args.levels.now }) c.args.samples.now c.args.index c.requires)

pub reach-requires : goal.reach-requires
reach-requires c =
    let k = c.loop-rest.invariant.1.left in
    (k.partial, k.bounds.decimation, grind (arith, nat_tests))

pub run-n-requires : goal.run-n-requires
run-n-requires c =
    let a = c.args in
    let l = c.loop-rest in
    let s = c.split_at in
    record {
      all = part_ready a.g (record { near = a.near; levels = a.levels.now }) a.samples.now a.index (record { near = l.n; levels = l.levels }) l.rest.now s.result.0.now s.result.1.now l.at l.invariant.1 s.ensures.by_index.0;
      some = omega (arith, s.ensures.front_len, c.reach.ensures.some);
      shaped = subst (λ (k : ℕ). NearShaped a.g l.n k) (sym s.ensures.front_len) c.reach.ensures.shaped;
    }

pub overflow_add-at : goal.overflow_add-at
overflow_add-at c = omega (arith, c.loop-rest.invariant.1.left.small, c.split_at.ensures.front_len, c.split_at.ensures.back_len)

pub loop-rest-smaller : goal.loop-rest-smaller
loop-rest-smaller c = omega (arith, c.reach.ensures.some, c.split_at.ensures.back_len)

pub loop-rest-preserved : goal.loop-rest-preserved
loop-rest-preserved c =
    let a = c.args in
    let l = c.loop-rest in
    let s = c.split_at in
    let k = c.run-n in (
      omega (arith, l.invariant.0, k.auto),
      part_gathered a.g (record { near = a.near; levels = a.levels.now }) a.samples.now a.index (record { near = l.n; levels = l.levels }) l.rest.now s.result.0.now s.result.1.now l.at l.invariant.1 s.ensures.by_index.0 _ _ k.ensures.near k.ensures.levels,
    )

pub shape_of-levels : goal.shape_of-levels
shape_of-levels c = c.loop-rest.invariant.0

pub returns : goal.returns
returns c =
    let a = c.args in
    let l = c.loop-rest in
    let none : length l.rest.now ≡ 0 = grind (arith, nat_tests) in
    let e = ends a.g (record { near = a.near; levels = a.levels.now }) a.samples.now a.index (record { near = l.n; levels = l.levels }) l.rest.now l.at none l.invariant.1 in
    record {
      near = rw (← e);
      levels = rw (← e);
    }
