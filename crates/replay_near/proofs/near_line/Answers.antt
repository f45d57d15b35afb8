-- `near_line` meets its contract: all samples pass, or the one behind them logs a line.
use mathlib.Core.Path.{◌∙◌}
use native.Mathlib.Omega.{arith}
use Rattle.scan_score.specs.Observing.{lent}
use Rattle.replay_near.proofs.Halting.{all_passed, one_more}
use Rattle.replay_near.proofs.near_line.Goals as goal

pub returns-then-i-samples : goal.returns-then-i-samples
returns-then-i-samples c =
    let a = c.args in all_passed a.event a.session c.pass-passed.result.session (lent a.envelope.now a.levels.now a.window.now a.prefix.now a.squares.now a.scores.now a.lag_sums.now) a.samples.now a.first c.pass-passed.result.index c.pass-passed.result.count _ (omega (arith, c.ranges)) c.pass-passed.ensures.session c.pass-passed.ensures.count c.pass-passed.ensures.index c.pass-passed.ensures.levels c.if-i-samples.true

pub offset_bounds-samples-i : goal.offset_bounds-samples-i
offset_bounds-samples-i c =
    omega (arith, c.if-i-samples.false, c.well_formed)

pub shape_of-levels : goal.shape_of-levels
shape_of-levels c =
    c.sample-one.auto.levels ∙ c.pass-passed.auto.levels

pub returns : goal.returns
returns c =
    let a = c.args in rw (c.cut_behind.ensures, c.saturating_add.ensures) (one_more a.event a.session c.pass-passed.result.session (lent a.envelope.now a.levels.now a.window.now a.prefix.now a.squares.now a.scores.now a.lag_sums.now) a.samples.now a.first c.pass-passed.result.index c.pass-passed.result.count _ (omega (arith, c.ranges)) c.pass-passed.ensures.session c.pass-passed.ensures.count c.pass-passed.ensures.index c.pass-passed.ensures.levels _ c.if-i-samples.false c.sample-one.result _ c.sample-one.ensures)
