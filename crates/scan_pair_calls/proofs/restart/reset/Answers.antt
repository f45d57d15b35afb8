-- `scan_pair_calls::restart::reset` meets its contract.
use Rattle.scan_pair_calls.proofs.Calls.{not_reset, is_reset}
use Rattle.scan_pair_calls.proofs.restart.reset.Goals as goal

pub returns-then-n-ne0 : goal.returns-then-n-ne0
returns-then-n-ne0 c = let e = not_reset c.args.slack c.args.pair c.args.envelope.now c.args.first_sums.now c.args.second_sums.now c.reset_refusal-n.ensures c.if-n-ne0.true in record { changed = rw (← e, c.refused.ensures); envelope = rw (← e); first = rw (← e); second = rw (← e) }

pub returns : goal.returns
returns c = let e = is_reset c.args.slack c.args.pair c.args.envelope.now c.args.first_sums.now c.args.second_sums.now c.reset_refusal-n.ensures c.if-n-ne0.false in
    record {
      changed = rw (← e, c.done.ensures, c.as_new.ensures);
      envelope = rw (← e, c.clear.ensures.envelope);
      first = rw (← e, c.clear.ensures.first);
      second = rw (← e, c.clear.ensures.second);
    }
