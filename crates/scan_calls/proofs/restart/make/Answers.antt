-- `scan_calls::restart::make` meets its contract.
use Rattle.scan_calls.proofs.Calls.{not_made, is_made}
use Rattle.scan_calls.proofs.restart.make.Goals as goal

pub returns-then-n-ne0 : goal.returns-then-n-ne0
returns-then-n-ne0 c =
    let a = c.args in
    let e = not_made a.slack a.rate a.ceiling a.envelope.now a.lag_sums.now c.making_refusal-n.ensures c.if-n-ne0.true in
    record {
      changed = rw (← e, c.refused.ensures, c.new_scan.ensures);
      envelope = rw (← e);
      sums = rw (← e);
    }

pub returns : goal.returns
returns c =
    let a = c.args in
    let e = is_made a.slack a.rate a.ceiling a.envelope.now a.lag_sums.now c.making_refusal-n.ensures c.if-n-ne0.false in
    record {
      changed = rw (← e, c.done.ensures, c.new_scan-2.ensures);
      envelope = rw (← e, c.clear32.ensures);
      sums = rw (← e, c.clear64.ensures);
    }
