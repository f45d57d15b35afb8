-- `scan_panel_calls::push_far` meets its contract.
use mathlib.Core.Path.{ap, ◌∙◌}
use Rattle.scan.specs.Calls.{FarPush}
use Rattle.scan_panel_calls.proofs.Calls.{not_pushed_far, is_pushed_far}
use Rattle.scan_panel_calls.proofs.push_far.Goals as goal

pub returns-then-not-allows : goal.returns-then-not-allows
returns-then-not-allows c =
    let a = c.args in
    let e = not_pushed_far a.scan c.allows.ensures c.if-not-allows.true-raw a.envelope.now a.samples.now in
    record {
      changed = c.refused.ensures ∙ ap (λ (p : FarPush). p.changed) e;
      envelope = ap (λ (p : FarPush). p.envelope) e;
    }

pub returns : goal.returns
returns c =
    let a = c.args in
    let e = is_pushed_far a.scan c.allows.ensures c.if-not-allows.false-raw a.envelope.now a.samples.now in
    let r = c.push.ensures in
    record {
      changed = r.changed ∙ ap (λ (p : FarPush). p.changed) e;
      envelope = r.envelope ∙ ap (λ (p : FarPush). p.envelope) e;
    }
