use Prim.Native.Nat.{◌+◌, ◌-◌}
use mathlib.Core.Path.{◌≡◌}
use lib.ListN.{length}
use Rattle.replay_runs.specs.Silences.{Follows}
use Rattle.replay_runs.proofs.Events.{rank}
use Rattle.replay_runs.proofs.follow.Given as goal

abbrev pub invariant-loop-at : goal.invariant-loop-at
invariant-loop-at l =
    Follows l.header l.session l.events l.far l.near l.initial.at l.initial.envelope l.initial.levels l.at l.envelope l.levels × (length l.samples ≡ length l.initial.samples) × (length l.envelope ≡ length l.initial.envelope) × (length l.levels ≡ length l.initial.levels)

abbrev pub decreases-loop-at : goal.decreases-loop-at
decreases-loop-at l = l.header.events - l.at.number + rank l.at.going
