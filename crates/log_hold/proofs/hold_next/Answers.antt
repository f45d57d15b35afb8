-- `log_hold::hold_next` meets its contract.
use Rattle.log_hold.proofs.hold_next.Goals as goal

pub after-requires : goal.after-requires
after-requires c = c.seek-found.ensures.0.within

pub returns : goal.returns
returns c =
    let sought = c.seek-found in
    record {
      window = sought.result.log;
      stands = sought.result.stands;
      sought = sought.ensures.0;
      after = c.after.ensures sought.ensures.1 sought.new.room;
    }
