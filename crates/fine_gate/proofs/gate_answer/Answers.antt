use Rattle.answers.proofs.Cases.{cases}
use Rattle.fine_gate.proofs.gate_answer.Goals as goal

pub returns-then-frames-eq0 : goal.returns-then-frames-eq0
returns-then-frames-eq0 c = search (cases, c.in-Taken.is)

pub returns-else-frames-eq0 : goal.returns-else-frames-eq0
returns-else-frames-eq0 c = search (cases, c.in-Taken.is)
