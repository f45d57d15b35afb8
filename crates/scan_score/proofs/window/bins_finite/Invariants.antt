use Prim.Native.Nat.{◌+◌}
use mathlib.Core.Path.{◌≡◌}
use mathlib.Core.Bool.{true}
use lib.ListN.{length}
use Prim.Native.Nat.{◌%◌}
use Rattle.folds.specs.Sums.{all_finite}
use Rattle.scan_score.specs.Observing.{bins_from}
use Rattle.scan_score.proofs.window.bins_finite.Given as goal

abbrev pub invariant-loop-i : goal.invariant-loop-i
invariant-loop-i l = (l.slot ≡ (l.start + l.i) % length l.envelope) × (all_finite (bins_from l.envelope l.next l.start l.i) ≡ true)
