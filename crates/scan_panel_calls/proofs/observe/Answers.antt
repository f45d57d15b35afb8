-- `scan_panel_calls::observe` meets its contract.
use mathlib.Core.Path.{◌∙◌}
use Rattle.scan_score.specs.Observing.{world, lent}
use Rattle.scan_panel_calls.proofs.Calls.{not_observed, is_observed}
use Rattle.scan_panel_calls.proofs.observe.Goals as goal

pub returns-then-not-allows : goal.returns-then-not-allows
returns-then-not-allows c =
    let a = c.args in
    not_observed (world a.scan (lent a.envelope.now a.levels.now a.window.now a.prefix.now a.squares.now a.scores.now a.lag_sums.now)) c.allows.ensures c.if-not-allows.true-raw

pub returns : goal.returns
returns c =
    let a = c.args in
    c.observe_with.ensures ∙ is_observed (world a.scan (lent a.envelope.now a.levels.now a.window.now a.prefix.now a.squares.now a.scores.now a.lag_sums.now)) c.allows.ensures c.if-not-allows.false-raw
