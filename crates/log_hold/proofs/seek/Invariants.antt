use mathlib.Core.Path.{◌≡◌}
use lib.ListN.{length}
use Rattle.log_hold.specs.Reading.{Sought}
use Rattle.log_hold.proofs.seek.Given as goal

abbrev pub invariant-loop-stands : goal.invariant-loop-stands
invariant-loop-stands l = (Sought l.due l.initial.at l.initial.room l.at l.room l.stands) × (length l.room ≡ 65536)

abbrev pub decreases-loop-stands : goal.decreases-loop-stands
decreases-loop-stands l = l.at.left
