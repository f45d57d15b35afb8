-- `scan_score::score` meets its contract: by its tests, in their order.
use mathlib.Core.Path.{ap, ◌∙◌}
use lib.ListN.{length}
use Rattle.folds.proofs.Laws.{length_table}
use Rattle.scan_score.proofs.Reading.{window_is}
use Rattle.scan_score.proofs.Steps.{is_uncovered_lem, is_ahead_lem, is_judged}
use native.Mathlib.Omega.{arith}
use Rattle.scan_score.proofs.score.Goals as goal

pub uncovered-requires : goal.uncovered-requires
uncovered-requires c = c.requires.sound.bounds

pub returns-then-uncovered : goal.returns-then-uncovered
returns-then-uncovered c =
    let a = c.args in
    is_uncovered_lem a.slack a.scan a.envelope.now a.levels.now a.window.now a.prefix.now a.squares.now a.scores.now a.sums.now _ c.uncovered.ensures _ c.if-uncovered.true c.after.ensures

pub ahead-requires : goal.ahead-requires
ahead-requires c =
    (c.requires.sound.bounds, c.requires.sound.first)

pub returns-then-ahead : goal.returns-then-ahead
returns-then-ahead c =
    let a = c.args in
    is_ahead_lem a.slack a.scan a.envelope.now a.levels.now a.window.now a.prefix.now a.squares.now a.scores.now a.sums.now _ c.uncovered.ensures _ c.ahead.ensures _ c.if-uncovered.false c.if-ahead.true c.after-then-ahead.ensures

pub fill-requires : goal.fill-requires
fill-requires c =
    let p = c.requires in
    (omega (arith, p.sound.envelope, p.sound.bounds.some_frame), omega (arith, c.saturating_sub.ensures, p.sound.first, p.fit.window, p.sound.bounds.frame, p.sound.bounds.span))

pub judge-requires : goal.judge-requires
judge-requires c =
    let p = c.requires in
    (record { levels = p.fit.levels; window = ap length c.fill.ensures ∙ length_table _ _ ∙ p.fit.window; prefix = p.fit.prefix; squares = p.fit.squares; scores = p.fit.scores; lag_sums = p.fit.lag_sums }, p.sound.bounds, p.sound.banked)

pub returns : goal.returns
returns c =
    let a = c.args in
    let p = c.requires in
    let s = a.scan in
    let window = c.fill.ensures ∙ window_is a.slack s.geometry s.far.next s.near.first a.envelope.now _ _ c.saturating_sub.ensures p.fit.window p.sound.envelope in
    c.judge.ensures a.envelope.now a.window.now
    ∙ is_judged a.slack s a.envelope.now a.levels.now a.window.now a.prefix.now a.squares.now a.scores.now a.sums.now _ c.uncovered.ensures _ c.ahead.ensures _ c.if-uncovered.false c.if-ahead.false (omega (arith, p.fit.levels, p.full)) window
