-- `scan_score::observe_with` meets its contract: the refusal comes first.
use mathlib.Core.Path.{sym, ◌∙◌}
use Rattle.scan_score.specs.Observing.{lent}
use Rattle.scan_score.proofs.Passing.{ready}
use Rattle.scan_score.proofs.Steps.{is_refused_lem, is_scored}
use borrow.Author.Rules.{rules}
use Rattle.scan_score.proofs.observe_with.Goals as goal

pub returns-then-n-ne0 : goal.returns-then-n-ne0
returns-then-n-ne0 c =
    let a = c.args in
    is_refused_lem a.slack a.scan (lent a.envelope.now a.levels.now a.window.now a.prefix.now a.squares.now a.scores.now a.sums.now) _ c.refusal-n.ensures c.if-n-ne0.true

pub score-requires : goal.score-requires
score-requires c =
    let a = c.args in
    let b = lent a.envelope.now a.levels.now a.window.now a.prefix.now a.squares.now a.scores.now a.sums.now in
    ready a.slack a.scan b (sym c.refusal-n.ensures ∙ c.if-n-ne0.false)

pub shape_of-window : goal.shape_of-window
shape_of-window c = search (rules, c.window-1)

pub shape_of-prefix : goal.shape_of-prefix
shape_of-prefix c = search (rules, c.prefix-1)

pub shape_of-squares : goal.shape_of-squares
shape_of-squares c = search (rules, c.squares-1)

pub shape_of-scores : goal.shape_of-scores
shape_of-scores c = search (rules, c.scores-1)

pub shape_of-sums : goal.shape_of-sums
shape_of-sums c = search (rules, c.sums-1)

pub returns : goal.returns
returns c =
    let a = c.args in
    let b = lent a.envelope.now a.levels.now a.window.now a.prefix.now a.squares.now a.scores.now a.sums.now in
    c.score.ensures ∙ is_scored a.slack a.scan b _ c.refusal-n.ensures c.if-n-ne0.false
