-- `turns` meets its contract: the invariant: what was asked is what comes from here, on top of the bytes used so far.
use mathlib.Core.Path.{refl, sym, ◌∙◌}
use native.Mathlib.Omega.{arith}
use Rattle.scan_score.specs.Observing.{lent}
use Rattle.replay_stream.proofs.Looping as looping
use Rattle.replay_runs.proofs.Silently.{still_holds}
use Rattle.replay_next.proofs.Taking.{sum_within, nearer, again, ends}
use Rattle.replay_next.proofs.turns.Goals as goal

pub loop-header-init : goal.loop-header-init
loop-header-init c = (looping.loop_holds _ _ _ _ _ refl, record { events = omega arith; far = omega arith; near = omega arith }, record { samples = refl; envelope = refl; levels = refl; window = refl; prefix = refl; squares = refl; scores = refl; sums = refl })

pub slice_bounds-advance-count : goal.slice_bounds-advance-count
slice_bounds-advance-count c = omega (arith, c.loop-header.invariant.1.events, c.loop-header.invariant.1.far, c.loop-header.invariant.1.near)

pub slice_bounds-advance-start : goal.slice_bounds-advance-start
slice_bounds-advance-start c = omega (arith, c.loop-header.invariant.1.events, c.loop-header.invariant.1.far, c.loop-header.invariant.1.near)

pub slice_bounds-advance-end : goal.slice_bounds-advance-end
slice_bounds-advance-end c = omega (arith, c.loop-header.invariant.1.events, c.loop-header.invariant.1.far, c.loop-header.invariant.1.near)

pub slice_bounds-advance-count-in-loop-header : goal.slice_bounds-advance-count-in-loop-header
slice_bounds-advance-count-in-loop-header c = omega (arith, c.loop-header.invariant.1.events, c.loop-header.invariant.1.far, c.loop-header.invariant.1.near)

pub slice_bounds-advance-start-in-loop-header : goal.slice_bounds-advance-start-in-loop-header
slice_bounds-advance-start-in-loop-header c = omega (arith, c.loop-header.invariant.1.events, c.loop-header.invariant.1.far, c.loop-header.invariant.1.near)

pub slice_bounds-advance-end-in-loop-header : goal.slice_bounds-advance-end-in-loop-header
slice_bounds-advance-end-in-loop-header c = omega (arith, c.loop-header.invariant.1.events, c.loop-header.invariant.1.far, c.loop-header.invariant.1.near)

pub slice_bounds-advance-count-in-loop-header-2 : goal.slice_bounds-advance-count-in-loop-header-2
slice_bounds-advance-count-in-loop-header-2 c = omega (arith, c.loop-header.invariant.1.events, c.loop-header.invariant.1.far, c.loop-header.invariant.1.near)

pub slice_bounds-advance-start-in-loop-header-2 : goal.slice_bounds-advance-start-in-loop-header-2
slice_bounds-advance-start-in-loop-header-2 c = omega (arith, c.loop-header.invariant.1.events, c.loop-header.invariant.1.far, c.loop-header.invariant.1.near)

pub slice_bounds-advance-end-in-loop-header-2 : goal.slice_bounds-advance-end-in-loop-header-2
slice_bounds-advance-end-in-loop-header-2 c = omega (arith, c.loop-header.invariant.1.events, c.loop-header.invariant.1.far, c.loop-header.invariant.1.near)

pub advance-t-requires : goal.advance-t-requires
advance-t-requires c =
    let same = c.loop-header.invariant.2.samples in
    let a = c.args in
    let x = c.loop-header.samples in
    (still_holds a.far.now _ x a.samples.now same c.requires.0, still_holds a.near.now _ x a.samples.now same c.requires.1)

pub plus-used-requires : goal.plus-used-requires
plus-used-requires c =
    let z = sum_within c.args.header c.args.events.now c.args.far.now c.args.near.now c.args.ended c.loop-header.at (lent c.loop-header.envelope c.loop-header.levels c.loop-header.window c.loop-header.prefix c.loop-header.squares c.loop-header.scores c.loop-header.lag_sums) c.loop-header.used c.loop-header.invariant.1 c.advance-t.result _ c.advance-t.ensures in (omega (arith, z.events, c.well_formed), omega (arith, z.far, c.well_formed), omega (arith, z.near, c.well_formed))

pub shape_of-samples-then-not-silent : goal.shape_of-samples-then-not-silent
shape_of-samples-then-not-silent c =
    c.advance-t.auto.samples ∙ c.loop-header.invariant.2.samples

pub shape_of-envelope-then-not-silent : goal.shape_of-envelope-then-not-silent
shape_of-envelope-then-not-silent c =
    c.advance-t.auto.envelope ∙ c.loop-header.invariant.2.envelope

pub shape_of-levels-then-not-silent : goal.shape_of-levels-then-not-silent
shape_of-levels-then-not-silent c =
    c.advance-t.auto.levels ∙ c.loop-header.invariant.2.levels

pub shape_of-window-then-not-silent : goal.shape_of-window-then-not-silent
shape_of-window-then-not-silent c =
    c.advance-t.auto.window ∙ c.loop-header.invariant.2.window

pub shape_of-prefix-then-not-silent : goal.shape_of-prefix-then-not-silent
shape_of-prefix-then-not-silent c =
    c.advance-t.auto.prefix ∙ c.loop-header.invariant.2.prefix

pub shape_of-squares-then-not-silent : goal.shape_of-squares-then-not-silent
shape_of-squares-then-not-silent c =
    c.advance-t.auto.squares ∙ c.loop-header.invariant.2.squares

pub shape_of-scores-then-not-silent : goal.shape_of-scores-then-not-silent
shape_of-scores-then-not-silent c =
    c.advance-t.auto.scores ∙ c.loop-header.invariant.2.scores

pub shape_of-lag_sums-then-not-silent : goal.shape_of-lag_sums-then-not-silent
shape_of-lag_sums-then-not-silent c =
    c.advance-t.auto.lag_sums ∙ c.loop-header.invariant.2.sums

pub returns-then-not-silent : goal.returns-then-not-silent
returns-then-not-silent c =
    rw c.plus-used.ensures (ends c.args.header c.args.events.now c.args.far.now c.args.near.now c.args.ended c.loop-header.at (lent c.loop-header.envelope c.loop-header.levels c.loop-header.window c.loop-header.prefix c.loop-header.squares c.loop-header.scores c.loop-header.lag_sums) c.loop-header.used c.loop-header.invariant.1 c.advance-t.result _ c.advance-t.ensures _ c.loop-header.invariant.0 (sym c.silent.ensures ∙ c.if-not-silent.true))

pub loop-header-smaller : goal.loop-header-smaller
loop-header-smaller c =
    nearer c.args.header c.args.events.now c.args.far.now c.args.near.now c.args.ended c.loop-header.at (lent c.loop-header.envelope c.loop-header.levels c.loop-header.window c.loop-header.prefix c.loop-header.squares c.loop-header.scores c.loop-header.lag_sums) c.loop-header.used c.loop-header.invariant.1 c.advance-t.result _ c.advance-t.ensures (sym c.silent.ensures ∙ c.if-not-silent.false)

pub loop-header-preserved : goal.loop-header-preserved
loop-header-preserved c =
    (rw c.plus-used.ensures (again c.args.header c.args.events.now c.args.far.now c.args.near.now c.args.ended c.loop-header.at (lent c.loop-header.envelope c.loop-header.levels c.loop-header.window c.loop-header.prefix c.loop-header.squares c.loop-header.scores c.loop-header.lag_sums) c.loop-header.used c.loop-header.invariant.1 c.advance-t.result _ c.advance-t.ensures _ c.loop-header.invariant.0 (sym c.silent.ensures ∙ c.if-not-silent.false)), rw c.plus-used.ensures (sum_within c.args.header c.args.events.now c.args.far.now c.args.near.now c.args.ended c.loop-header.at (lent c.loop-header.envelope c.loop-header.levels c.loop-header.window c.loop-header.prefix c.loop-header.squares c.loop-header.scores c.loop-header.lag_sums) c.loop-header.used c.loop-header.invariant.1 c.advance-t.result _ c.advance-t.ensures), record { samples = c.advance-t.auto.samples ∙ c.loop-header.invariant.2.samples; envelope = c.advance-t.auto.envelope ∙ c.loop-header.invariant.2.envelope; levels = c.advance-t.auto.levels ∙ c.loop-header.invariant.2.levels; window = c.advance-t.auto.window ∙ c.loop-header.invariant.2.window; prefix = c.advance-t.auto.prefix ∙ c.loop-header.invariant.2.prefix; squares = c.advance-t.auto.squares ∙ c.loop-header.invariant.2.squares; scores = c.advance-t.auto.scores ∙ c.loop-header.invariant.2.scores; sums = c.advance-t.auto.lag_sums ∙ c.loop-header.invariant.2.sums })
