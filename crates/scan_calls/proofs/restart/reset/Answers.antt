-- `scan_calls::restart::reset` meets its contract.
use Rattle.scan_calls.proofs.Calls.{not_reset, is_reset}
use Rattle.scan_calls.proofs.restart.reset.Goals as goal

pub returns-then-n-ne0 : goal.returns-then-n-ne0
returns-then-n-ne0 c =
    let a = c.args in
    let e = not_reset a.slack a.scan a.envelope.now a.lag_sums.now c.reset_refusal-n.ensures c.if-n-ne0.true in
    record {
      changed = rw (← e, c.refused.ensures);
      envelope = rw (← e);
      sums = rw (← e);
    }

pub returns : goal.returns
returns c =
    let a = c.args in
    let e = is_reset a.slack a.scan a.envelope.now a.lag_sums.now c.reset_refusal-n.ensures c.if-n-ne0.false in
    record {
      changed = rw (← e, c.done.ensures, c.as_new.ensures);
      envelope = rw (← e, c.clear32.ensures);
      sums = rw (← e, c.clear64.ensures);
    }
