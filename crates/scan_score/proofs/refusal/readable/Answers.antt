-- `scan_score::refusal::readable` meets its contract: by its tests, in their order.
use mathlib.Core.Path.{refl, ap}
use Rattle.folds.specs.Sums.{all_finite}
use Rattle.answers.specs.Pick.{pick}
use Rattle.answers.proofs.Cases.{cases}
use Rattle.scan_score.specs.Observing.{may_read}
use Rattle.scan_score.proofs.Reading.{window_is}
use native.Mathlib.Omega.{arith}
use Rattle.scan_score.proofs.refusal.readable.Goals as goal

pub uncovered-requires : goal.uncovered-requires
uncovered-requires c = c.requires.bounds

pub ahead-requires : goal.ahead-requires
ahead-requires c = (c.requires.bounds, c.requires.first)

pub returns-then-uncovered : goal.returns-then-uncovered
unfolding may_read pick
returns-then-uncovered c = grind (arith, cases)

pub overflow_add-g : goal.overflow_add-g
overflow_add-g c =
    omega (arith, c.requires.bounds.frame, c.requires.bounds.span)

pub bins_finite-requires : goal.bins_finite-requires
bins_finite-requires c =
    let p = c.requires in
    (omega (arith, p.envelope, p.bounds.some_frame), omega (arith, c.saturating_sub-start.ensures, p.first, p.bounds.frame, p.bounds.span))

pub returns-then-bins_finite : goal.returns-then-bins_finite
unfolding may_read pick
returns-then-bins_finite c =
    let a = c.args in
    let s = a.scan in
    let is = ap all_finite (window_is a.slack s.geometry s.far.next s.near.first a.envelope.now _ _ c.saturating_sub-start.ensures refl c.requires.envelope) in
    grind (arith, cases, is)

pub returns-else-bins_finite : goal.returns-else-bins_finite
unfolding may_read pick
returns-else-bins_finite c =
    let a = c.args in
    let s = a.scan in
    let is = ap all_finite (window_is a.slack s.geometry s.far.next s.near.first a.envelope.now _ _ c.saturating_sub-start.ensures refl c.requires.envelope) in
    grind (arith, cases, is)
