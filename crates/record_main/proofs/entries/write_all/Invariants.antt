-- `record_main::entries::write_all` is safe and ends: each turn writes at least one event.
use mathlib.Core.Path.{◌≡◌}
use lib.ListN.{length}
use Rattle.record_main.proofs.entries.write_all.Given as goal

abbrev pub invariant-loop-left : goal.invariant-loop-left
invariant-loop-left l = length l.room ≡ length l.initial.room

abbrev pub decreases-loop-left : goal.decreases-loop-left
decreases-loop-left l = l.left
