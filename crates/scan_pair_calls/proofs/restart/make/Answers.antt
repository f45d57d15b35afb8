-- `scan_pair_calls::restart::make` meets its contract.
use Rattle.scan_pair_calls.proofs.Calls.{not_made, is_made}
use Rattle.scan_pair_calls.proofs.restart.make.Goals as goal

pub returns-then-n-ne0 : goal.returns-then-n-ne0
returns-then-n-ne0 c = let e = not_made c.args.slack c.args.rate c.args.ceiling c.args.envelope.now c.args.first_sums.now c.args.second_sums.now c.making_refusal-n.ensures c.if-n-ne0.true in record { changed = rw (← e, c.refused.ensures, c.as_new.ensures, c.geometry_of.ensures.is); envelope = rw (← e); first = rw (← e); second = rw (← e) }

pub returns : goal.returns
returns c = let e = is_made c.args.slack c.args.rate c.args.ceiling c.args.envelope.now c.args.first_sums.now c.args.second_sums.now c.making_refusal-n.ensures c.if-n-ne0.false in
    record {
      changed = rw (← e, c.done.ensures, c.as_new-2.ensures, c.geometry_of-2.ensures.is);
      envelope = rw (← e, c.clear.ensures.envelope);
      first = rw (← e, c.clear.ensures.first);
      second = rw (← e, c.clear.ensures.second);
    }
