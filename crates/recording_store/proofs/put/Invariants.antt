use mathlib.Core.Path.{◌≡◌}
use Prim.Native.Nat.{◌+◌, ◌-◌, ◌≤◌}
use lib.ListN.{length}
use lib.Seq.{sets}
use Rattle.recording.specs.Bytes.{bytes}
use Rattle.recording_store.proofs.put.Given as goal

abbrev pub invariant-loop-i : goal.invariant-loop-i
invariant-loop-i l =
    (l.i ≤ l.width) × (length l.out ≡ length l.initial.out) × (sets l.out (l.at + l.i) (bytes (l.width - l.i) l.rest) ≡ sets l.initial.out l.at (bytes l.width l.number))

abbrev pub decreases-loop-i : goal.decreases-loop-i
decreases-loop-i l = l.width - l.i
