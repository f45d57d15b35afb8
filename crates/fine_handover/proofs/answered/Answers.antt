-- `fine_handover::answered` meets its contract.
use Rattle.answers.proofs.Cases.{cases}
use Rattle.fine_handover.proofs.answered.Goals as goal

pub returns-then-len-fine : goal.returns-then-len-fine
returns-then-len-fine c = search (cases, c.with_frames-longer.ensures)

pub returns : goal.returns
returns c = search (cases, c.with_frames-longer.ensures)
