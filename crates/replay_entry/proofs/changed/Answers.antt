-- `changed` meets its contract: what the scan answers is told by one line, or none.
use Rattle.replay_entry.proofs.changed.Goals as goal

pub returns : goal.returns
returns c = rw (c.goes_on.ensures, c.next_with_scan-next.ensures, c.change_answer-answer.ensures)
