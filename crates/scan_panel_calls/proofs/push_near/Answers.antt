-- `scan_panel_calls::push_near` meets its contract.
use mathlib.Core.Path.{ap, ◌∙◌}
use Rattle.scan.specs.Calls.{NearPush}
use Rattle.scan_panel_calls.proofs.Calls.{not_pushed_near, is_pushed_near}
use Rattle.scan_panel_calls.proofs.push_near.Goals as goal

pub returns-then-not-allows : goal.returns-then-not-allows
returns-then-not-allows c =
    let a = c.args in
    let e = not_pushed_near a.scan c.allows.ensures c.if-not-allows.true-raw a.levels.now a.sample a.index in
    record {
      took = ap (λ (p : NearPush). p.took) e;
      levels = ap (λ (p : NearPush). p.levels) e;
    }

pub returns : goal.returns
returns c =
    let a = c.args in
    let e = is_pushed_near a.scan c.allows.ensures c.if-not-allows.false-raw a.levels.now a.sample a.index in
    let r = c.push_near.ensures in
    record {
      took = r.took ∙ ap (λ (p : NearPush). p.took) e;
      levels = r.levels ∙ ap (λ (p : NearPush). p.levels) e;
    }
