-- `scan_panel_calls::discard_near` meets its contract.
use mathlib.Core.Path.{ap, ◌∙◌}
use Rattle.scan.specs.Calls.{Clearing}
use Rattle.scan_panel_calls.proofs.Calls.{not_discarded, is_discarded}
use Rattle.scan_panel_calls.proofs.discard_near.Goals as goal

pub returns-then-not-allows : goal.returns-then-not-allows
returns-then-not-allows c =
    let a = c.args in
    let e = not_discarded a.scan c.allows.ensures c.if-not-allows.true-raw a.lag_sums.now in
    record {
      changed = c.refused.ensures ∙ ap (λ (p : Clearing). p.changed) e;
      sums = ap (λ (p : Clearing). p.lag_sums) e;
    }

pub returns : goal.returns
returns c =
    let a = c.args in
    let e = is_discarded a.scan c.allows.ensures c.if-not-allows.false-raw a.lag_sums.now in
    record {
      changed = c.discard_near.ensures.changed ∙ ap (λ (p : Clearing). p.changed) e;
      sums = c.discard_near.ensures.sums ∙ ap (λ (p : Clearing). p.lag_sums) e;
    }
