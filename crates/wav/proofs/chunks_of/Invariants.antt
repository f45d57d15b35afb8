use mathlib.Core.Path.{◌≡◌}
use Prim.Native.Nat.{◌≤◌}
use Rattle.wav.specs.Riff.{chunks_from, chunks_of}
use Rattle.wav.proofs.chunks_of.Given as goal

abbrev pub invariant-loop-left : goal.invariant-loop-left
invariant-loop-left l = (l.at ≤ 8589934592) × (chunks_from l.head l.left l.at l.format ≡ chunks_of l.head)

abbrev pub decreases-loop-left : goal.decreases-loop-left
decreases-loop-left l = l.left
