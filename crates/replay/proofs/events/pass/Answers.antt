-- `events::pass` meets its contract.
use Rattle.replay.proofs.events.pass.Goals as goal

pub returns : goal.returns
returns c =
    let run = c.push_near_run-run.ensures in
    record {
      session = rw (c.with_scan.ensures, run.run);
      count = rw run.run;
      index = rw (c.later.ensures, run.run);
      levels = run.levels;
    }
