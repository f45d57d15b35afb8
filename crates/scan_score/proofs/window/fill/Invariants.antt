use Prim.Native.Nat.{◌+◌}
use mathlib.Core.Path.{◌≡◌}
use lib.ListN.{length, take}
use Prim.Native.Nat.{◌%◌}
use Rattle.scan_score.specs.Observing.{bins_from}
use Rattle.scan_score.proofs.window.fill.Given as goal

abbrev pub invariant-loop-i : goal.invariant-loop-i
invariant-loop-i l = (length l.window ≡ length l.initial.window) × (l.slot ≡ (l.start + l.i) % length l.envelope) × (take l.i l.window ≡ bins_from l.envelope l.next l.start l.i)
