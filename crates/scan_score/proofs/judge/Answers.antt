-- `scan_score::judge` meets its contract: by its tests, in their order.
use mathlib.Core.Path.{◌∙◌}
use Rattle.scan_score.proofs.Steps.{is_quiet, is_flat, is_counted_lem}
use borrow.Author.Rules.{rules}
use native.Mathlib.Omega.{arith}
use Rattle.scan_score.proofs.judge.Goals as goal

pub quiet-requires : goal.quiet-requires
quiet-requires c =
    omega (arith, c.requires.0.window, c.requires.1.frame, c.requires.1.span)

pub returns-then-quiet : goal.returns-then-quiet
returns-then-quiet c =
    let a = c.args in
    λ e w. is_quiet a.scan e a.levels.now w a.window.now a.prefix.now a.squares.now a.scores.now a.sums.now _ c.quiet.ensures _ c.if-quiet.true c.after.ensures

pub flat-requires : goal.flat-requires
flat-requires c =
    omega (arith, c.requires.0.levels, c.requires.1.frame)

pub returns-then-flat : goal.returns-then-flat
returns-then-flat c =
    let a = c.args in
    λ e w. is_flat a.scan e a.levels.now w a.window.now a.prefix.now a.squares.now a.scores.now a.sums.now _ c.quiet.ensures _ c.flat.ensures _ c.if-quiet.false c.if-flat.true c.after-then-flat.ensures

pub count_frame-requires : goal.count_frame-requires
count_frame-requires c = c.requires

pub shape_of-prefix : goal.shape_of-prefix
shape_of-prefix c = search (rules, c.prefix-1)

pub shape_of-squares : goal.shape_of-squares
shape_of-squares c = search (rules, c.squares-1)

pub shape_of-scores : goal.shape_of-scores
shape_of-scores c = search (rules, c.scores-1)

pub shape_of-sums : goal.shape_of-sums
shape_of-sums c = search (rules, c.sums-1)

pub returns : goal.returns
returns c =
    let a = c.args in
    λ e w. c.count_frame.ensures e w ∙ is_counted_lem a.scan e a.levels.now w a.window.now a.prefix.now a.squares.now a.scores.now a.sums.now _ c.quiet.ensures _ c.flat.ensures c.if-quiet.false c.if-flat.false
