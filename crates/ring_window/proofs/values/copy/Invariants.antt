use mathlib.Core.Path.{◌≡◌}
use mathlib.Core.List.{map}
use lib.ListN.{length, drop}
use lib.Seq.{paste}
use lib.Ieee.{binary32, of_bits}
use Rattle.ring_window.proofs.values.copy.Given as goal

abbrev pub invariant-loop-i : goal.invariant-loop-i
invariant-loop-i l = (length l.window ≡ length l.initial.window) × (l.window ≡ paste l.initial.window l.to (map (of_bits binary32) (drop l.slot l.buf)) l.i)
