use Rattle.fine.proofs.Laws.{due_frame}
use Rattle.fine_gate.specs.Gate.{is_frame}
use Rattle.fine_gate.proofs.is_frame.Goals as goal

pub returns : goal.returns
unfolding is_frame
returns c = rw (due_frame _ _ c.requires)
