use Rattle.answers.proofs.Cases.{cases}
use Rattle.fine_gate.specs.Gate.{took_one}
use Rattle.fine_gate.proofs.took_one.Goals as goal

pub returns-then-len-fine : goal.returns-then-len-fine
unfolding took_one
returns-then-len-fine c = search (cases, c.with_frames-longer.ensures)

pub returns : goal.returns
unfolding took_one
returns c = search (cases, c.with_frames-longer.ensures)
