use mathlib.Core.Path.{◌≡◌}
use lib.ListN.{length, drop}
use lib.Seq.{paste}
use Rattle.ring_window.proofs.patterns.copy.Given as goal

abbrev pub invariant-loop-i : goal.invariant-loop-i
invariant-loop-i l = (length l.window ≡ length l.initial.window) × (l.window ≡ paste l.initial.window l.to (drop l.slot l.buf) l.i)
