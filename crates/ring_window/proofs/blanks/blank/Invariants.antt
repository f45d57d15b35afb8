use mathlib.Core.Path.{◌≡◌}
use lib.ListN.{length, replicate}
use lib.Seq.{paste}
use Rattle.ring_window.proofs.blanks.blank.Given as goal

abbrev pub invariant-loop-i : goal.invariant-loop-i
invariant-loop-i g l = (length l.window ≡ length l.initial.window) × (l.window ≡ paste l.initial.window l.from (replicate l.n l.x) l.i)
