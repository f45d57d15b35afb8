-- `discontinuity` meets its contract: what the tracker answers is told by one line, or none.
use Rattle.replay_entry.proofs.discontinuity.Goals as goal

pub returns : goal.returns
returns c = rw (c.goes_on.ensures, c.next_with_tracker-next.ensures, c.change_answer-answer.ensures, c.on_discontinuity-c.ensures)
