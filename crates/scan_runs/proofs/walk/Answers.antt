-- `scan_runs::walk` meets its contract: the invariant is `Going`.
use Rattle.std.proofs.Common.{◌≡◌, ℕ, zero, suc, ◌+◌, ◌-◌, ◌^◌, ◌<◌, ◌≤◌, length, take, drop, sym, refl, ap, ◌∙◌, arith, length-take}
use borrow.Author.Tests.{not-true, not-false}
use Rattle.answers.specs.Numbers.{limit}
use Rattle.scan.specs.declared.Far.{Far}
use Rattle.scan.specs.declared.Verdict.{Verdict}
use Rattle.scan_runs.specs.Ready.{Open, scan_of}
use Rattle.scan_runs.proofs.Passing.{bounded}
use Rattle.scan_runs.proofs.Going.{Leap, starts, leaps, through, ends, below, gathers_if, goes}
use Rattle.scan_runs.proofs.walk.Goals as goal
use Rattle.scan_runs.proofs.walk.Goals.{After-stretch-after}

-- the samples that were summed at once
leap : (c : After-stretch-after)
    → let l = c.loop-i in
    let a = c.args in
    (f : Far) (v : Verdict) → Open (scan_of a.g f a.before v) a.levels.now → Leap (scan_of a.g f a.before v) a.levels.now a.samples.now a.first l.near l.levels l.index l.i c.stretch-after.result
leap c f v o =
    let l = c.loop-i in
    let a = c.args in
    let m = c.reach.result in
    let size : l.i + m - l.i ≡ m = omega arith in
    leaps (scan_of a.g f a.before v) a.levels.now a.samples.now a.first l.near l.levels l.index l.i (l.invariant.1 f v o) m _ c.stretch-after.result c.reach.ensures
    (ap (λ (z : ℕ). take z (drop l.i a.samples.now)) size) c.stretch-after.ensures

-- as the state that the caller has in mind knows them
one-leap : (c : After-stretch-after)
    → let l = c.loop-i in
    Leap (scan_of c.args.g c.requires.far c.args.before c.requires.verdict) c.args.levels.now c.args.samples.now c.args.first l.near l.levels l.index l.i c.stretch-after.result
one-leap c = let o = c.requires in leap c o.far o.verdict o.opened

-- none was, or their indices are below the limit
fitting : (index n : ℕ) → index < 2 ^ 64 → (0 < n → index + n ≤ limit) → index + n < 2 ^ 64
fitting index zero h f = omega arith
fitting index (suc n) h f = omega (arith, f (omega arith))

pub loop-i-init : goal.loop-i-init
loop-i-init c =
    (refl, λ f v o. starts (scan_of c.args.g f c.args.before v) c.args.levels.now c.args.samples.now c.args.first o, omega arith)

pub overflow_sub-samples : goal.overflow_sub-samples
overflow_sub-samples c = omega arith

pub reach-requires : goal.reach-requires
reach-requires c =
    let o = c.requires in
    let k = (c.loop-i.invariant.1 o.far o.verdict o.opened).ready in
    (k.partial, (bounded _ _ k).decimation, omega arith)

pub overflow_add-end : goal.overflow_add-end
overflow_add-end c = omega (arith, c.reach.ensures.within)

pub slice_bounds-stretch-start : goal.slice_bounds-stretch-start
slice_bounds-stretch-start c = omega (arith, c.reach.ensures.within)

pub slice_bounds-stretch-end : goal.slice_bounds-stretch-end
slice_bounds-stretch-end c = omega (arith, c.reach.ensures.within)

pub stretch-after-requires : goal.stretch-after-requires
stretch-after-requires c =
    let l = c.loop-i in
    let samples = c.args.samples.now in
    let k = (l.invariant.1 c.requires.far c.requires.verdict c.requires.opened).ready in
    let r = c.reach.ensures in
    let m = c.reach.result in
    let size : length (take (l.i + m - l.i) (drop l.i samples)) ≤ m = omega (arith, length-take (l.i + m - l.i) (drop l.i samples)) in (
      omega (arith, size, k.partial, (bounded _ _ k).decimation, r.partial),
      λ z. omega (arith, size, r.follows (omega (arith, size, z)), r.small (omega (arith, size, z))),
    )

pub overflow_sub-taken : goal.overflow_sub-taken
overflow_sub-taken c = (one-leap (record { before = c.before.before.before; type_inv = record { samples = c.type_inv.samples } })).onward

pub overflow_add-index : goal.overflow_add-index
overflow_add-index c =
    let l = c.loop-i in
    omega (arith, fitting l.index (c.stretch-after.result.count - l.near.count) l.invariant.2 (one-leap (record { before = c.before.before.before; type_inv = record { samples = c.type_inv.samples } })).small)

pub overflow_add-i : goal.overflow_add-i
overflow_add-i c = omega (arith, (one-leap (record { before = c.before.before.before; type_inv = record { samples = c.type_inv.samples } })).less)

pub offset_bounds-samples-i-in-loop-i : goal.offset_bounds-samples-i-in-loop-i
offset_bounds-samples-i-in-loop-i c = omega (arith, (one-leap (record { before = c.before.before.before; type_inv = record { samples = c.type_inv.samples } })).less)

pub bounds-samples-i : goal.bounds-samples-i
bounds-samples-i c = (one-leap (record { before = c.before.before.before.before; type_inv = record { samples = c.shared_slice_known-1.given } })).less

pub passable-requires : goal.passable-requires
passable-requires c = let k = (one-leap (record { before = c.before.before.before.before; type_inv = record { samples = c.shared_slice_known-1.given } })).going.ready in (k.partial, k.room)

pub shape_of-levels-then-not-passable : goal.shape_of-levels-then-not-passable
shape_of-levels-then-not-passable c = c.loop-i.invariant.0

pub returns-then-not-passable : goal.returns-then-not-passable
returns-then-not-passable c = λ f v o.
    let l = c.loop-i in
    let a = c.args in
    let n = c.stretch-after.result in
    let t = n.count - l.near.count in
    ends (scan_of a.g f a.before v) a.levels.now a.samples.now a.first n l.levels (l.index + t) (l.i + t) (leap (record { before = c.before.before.before.before.before.before; type_inv = record { samples = c.shared_slice_known-1.given } }) f v o).going (leap (record { before = c.before.before.before.before.before.before; type_inv = record { samples = c.shared_slice_known-1.given } }) f v o).less
    (sym c.passable.ensures ∙ not-true _ c.if-not-passable.true-raw)

pub step-near-requires : goal.step-near-requires
step-near-requires c =
    let l = c.loop-i in
    let a = c.args in
    let s = scan_of a.g c.requires.far a.before c.requires.verdict in
    let n = c.stretch-after.result in
    let t = n.count - l.near.count in (
      omega (arith, (one-leap (record { before = c.before.before.before.before.before.before.before; type_inv = record { samples = c.shared_slice_known-1.given } })).going.ready.partial),
      gathers_if s a.levels.now a.samples.now a.first n l.levels (l.index + t) (l.i + t) (one-leap (record { before = c.before.before.before.before.before.before.before; type_inv = record { samples = c.shared_slice_known-1.given } })).going (one-leap (record { before = c.before.before.before.before.before.before.before; type_inv = record { samples = c.shared_slice_known-1.given } })).less
          (sym c.passable.ensures ∙ not-false _ c.if-not-passable.false-raw),
    )

pub overflow_add-index-in-loop-i : goal.overflow_add-index-in-loop-i
overflow_add-index-in-loop-i c =
    let l = c.loop-i in
    let a = c.args in
    let s = scan_of a.g c.requires.far a.before c.requires.verdict in
    let n = c.stretch-after.result in
    let t = n.count - l.near.count in
    omega (
      arith,
      below s a.levels.now a.samples.now a.first n l.levels (l.index + t) (l.i + t) (one-leap (record { before = c.before.before.before.before.before.before.before.before.before.before; type_inv = record { samples = c.shared_slice_known-1.given } })).going (one-leap (record { before = c.before.before.before.before.before.before.before.before.before.before; type_inv = record { samples = c.shared_slice_known-1.given } })).less
          (sym c.passable.ensures ∙ not-false _ c.if-not-passable.false-raw),
    )

pub overflow_add-i-in-loop-i : goal.overflow_add-i-in-loop-i
overflow_add-i-in-loop-i c = omega (arith, (one-leap (record { before = c.before.before.before.before.before.before.before.before.before.before; type_inv = record { samples = c.shared_slice_known-1.given } })).less, c.ranges, c.well_formed)

pub loop-i-smaller : goal.loop-i-smaller
loop-i-smaller c = omega (arith, (one-leap (record { before = c.before.before.before.before.before.before.before.before.before.before; type_inv = record { samples = c.shared_slice_known-1.given } })).less)

pub loop-i-preserved : goal.loop-i-preserved
loop-i-preserved c =
    let l = c.loop-i in
    let a = c.args in
    let n = c.stretch-after.result in
    let t = n.count - l.near.count in
    let step = c.step-near in
    let passes = sym c.passable.ensures ∙ not-false _ c.if-not-passable.false-raw in
    let small = below (scan_of a.g c.requires.far a.before c.requires.verdict) a.levels.now a.samples.now a.first n l.levels (l.index + t) (l.i + t) (one-leap (record { before = c.before.before.before.before.before.before.before.before.before.before; type_inv = record { samples = c.shared_slice_known-1.given } })).going (one-leap (record { before = c.before.before.before.before.before.before.before.before.before.before; type_inv = record { samples = c.shared_slice_known-1.given } })).less passes in (
      omega (arith, l.invariant.0, step.auto),
      λ f v o. goes (scan_of a.g f a.before v) a.levels.now a.samples.now a.first n l.levels (l.index + t) (l.i + t) (leap (record { before = c.before.before.before.before.before.before.before.before.before.before; type_inv = record { samples = c.shared_slice_known-1.given } }) f v o).going (leap (record { before = c.before.before.before.before.before.before.before.before.before.before; type_inv = record { samples = c.shared_slice_known-1.given } }) f v o).less
          passes _ _ step.ensures.near step.ensures.levels,
      omega (arith, small),
    )

pub shape_of-levels : goal.shape_of-levels
shape_of-levels c = c.loop-i.invariant.0

pub returns : goal.returns
returns c = λ f v o.
    let a = c.args in
    let l = c.loop-i in
    through (scan_of a.g f a.before v) a.levels.now a.samples.now a.first l.near l.levels l.index l.i (l.invariant.1 f v o) (omega arith)
