use mathlib.Core.Path.{◌≡◌}
use lib.ListN.{length}
use Rattle.scan_push.proofs.Pushing.{Going}
use Rattle.scan_push.proofs.far.hear_all.Given as goal

abbrev pub invariant-loop-rest : goal.invariant-loop-rest
invariant-loop-rest l = (length l.envelope ≡ length l.initial.envelope) × Going l.slack l.g (record { far = l.initial.f; envelope = l.initial.envelope }) l.samples (record { far = l.f; envelope = l.envelope }) l.rest

abbrev pub decreases-loop-rest : goal.decreases-loop-rest
decreases-loop-rest l = length l.rest
