-- `scan_panel_calls::reset` meets its contract.
use mathlib.Core.Path.{ap, ◌∙◌}
use Rattle.scan.specs.Calls.{Restart}
use Rattle.scan_panel_calls.proofs.Calls.{not_reset, is_reset}
use Rattle.scan_panel_calls.proofs.reset.Goals as goal

pub returns-then-not-allows : goal.returns-then-not-allows
returns-then-not-allows c =
    let a = c.args in
    let e = not_reset a.scan c.allows.ensures c.if-not-allows.true-raw a.envelope.now a.lag_sums.now in
    record {
      changed = c.refused.ensures ∙ ap (λ (p : Restart). p.changed) e;
      envelope = ap (λ (p : Restart). p.envelope) e;
      sums = ap (λ (p : Restart). p.lag_sums) e;
    }

pub returns : goal.returns
returns c =
    let a = c.args in
    let e = is_reset a.scan c.allows.ensures c.if-not-allows.false-raw a.envelope.now a.lag_sums.now in
    let r = c.reset.ensures in
    record {
      changed = r.changed ∙ ap (λ (p : Restart). p.changed) e;
      envelope = r.envelope ∙ ap (λ (p : Restart). p.envelope) e;
      sums = r.sums ∙ ap (λ (p : Restart). p.lag_sums) e;
    }
