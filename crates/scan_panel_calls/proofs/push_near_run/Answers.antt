-- `scan_panel_calls::push_near_run` meets its contract.
use mathlib.Core.Path.{ap, ◌∙◌}
use Rattle.scan_handover.specs.Handover.{NearRun}
use Rattle.scan_panel_calls.proofs.Calls.{not_handed, is_handed}
use Rattle.scan_panel_calls.proofs.push_near_run.Goals as goal

pub returns-then-not-allows : goal.returns-then-not-allows
returns-then-not-allows c =
    let a = c.args in
    let e = not_handed a.scan c.allows.ensures c.if-not-allows.true-raw a.levels.now a.samples.now a.first in
    record {
      handed = ap (λ (p : NearRun). p.handed) e;
      levels = ap (λ (p : NearRun). p.levels) e;
    }

pub returns : goal.returns
returns c =
    let a = c.args in
    let e = is_handed a.scan c.allows.ensures c.if-not-allows.false-raw a.levels.now a.samples.now a.first in
    let r = c.push_near_run.ensures in
    record {
      handed = r.handed ∙ ap (λ (p : NearRun). p.handed) e;
      levels = r.levels ∙ ap (λ (p : NearRun). p.levels) e;
    }
