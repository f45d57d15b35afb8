use Rattle.fine_gate.specs.Gate.{passed}
use Rattle.fine_gate.proofs.passed.Goals as goal

pub returns : goal.returns
unfolding passed
returns c = simp (c.with_frames.ensures, c.consume.ensures, c.gate_answer.ensures)
