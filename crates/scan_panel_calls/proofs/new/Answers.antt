-- `scan_panel_calls::new` meets its contract.
use mathlib.Core.Path.{ap, ◌∙◌}
use Rattle.scan.specs.Calls.{Restart}
use Rattle.scan_panel_calls.specs.Made.{panel_returned}
use Rattle.scan_panel_calls.proofs.Calls.{not_made, is_made, is_made_envelope, is_made_sums}
use Rattle.scan_panel_calls.proofs.new.Goals as goal

pub returns-then-not-in_table : goal.returns-then-not-in_table
returns-then-not-in_table c =
    let a = c.args in
    let e = not_made a.rate a.ceiling a.envelope.now a.lag_sums.now c.in_table.ensures c.if-not-in_table.true-raw in
    record {
      changed = c.refused.ensures ∙ ap (λ (p : Restart). p.changed) e;
      envelope = ap (λ (p : Restart). p.envelope) e;
      sums = ap (λ (p : Restart). p.lag_sums) e;
    }

pub returns : goal.returns
returns c =
    let a = c.args in
    let t = c.in_table.ensures in
    let n = c.if-not-in_table.false-raw in
    let r = c.make.ensures in
    record {
      changed = c.returned.ensures ∙ ap panel_returned r.changed ∙ is_made a.rate a.ceiling a.envelope.now a.lag_sums.now t n;
      envelope = r.envelope ∙ is_made_envelope a.rate a.ceiling a.envelope.now a.lag_sums.now t n;
      sums = r.sums ∙ is_made_sums a.rate a.ceiling a.envelope.now a.lag_sums.now t n;
    }
