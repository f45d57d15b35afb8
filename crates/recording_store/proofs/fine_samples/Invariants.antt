use Rattle.recording_convert.proofs.Samples.{Fine}
use Rattle.recording_store.proofs.fine_samples.Given as goal

abbrev pub invariant-loop-i : goal.invariant-loop-i
invariant-loop-i l = Fine l.direction l.s 0 l.i
