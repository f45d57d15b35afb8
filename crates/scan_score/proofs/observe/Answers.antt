-- `scan_score::observe` meets its contract.
use borrow.Author.Rules.{rules}
use Rattle.scan_score.proofs.observe.Goals as goal

pub shape_of-window : goal.shape_of-window
shape_of-window c = search (rules, c.window-1)

pub shape_of-prefix : goal.shape_of-prefix
shape_of-prefix c = search (rules, c.prefix-1)

pub shape_of-squares : goal.shape_of-squares
shape_of-squares c = search (rules, c.squares-1)

pub shape_of-scores : goal.shape_of-scores
shape_of-scores c = search (rules, c.scores-1)

pub shape_of-lag_sums : goal.shape_of-lag_sums
shape_of-lag_sums c = search (rules, c.lag_sums-1)

pub returns : goal.returns
returns c = c.observe_with.ensures
