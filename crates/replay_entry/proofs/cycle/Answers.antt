-- `cycle` meets its contract: what the tracker answers is told by one line.
use Rattle.replay_entry.proofs.cycle.Goals as goal

pub returns : goal.returns
returns c =
    rw (c.goes_on.ensures, c.next_with_tracker-next.ensures, c.cycles_after-cycles.ensures, c.cycle_line-line.ensures, c.on_cycle-c.ensures)
