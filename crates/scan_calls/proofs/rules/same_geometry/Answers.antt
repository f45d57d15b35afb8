-- `scan_calls::rules::same_geometry` meets its contract: field by field.
use Rattle.answers.proofs.Cases.{cases}
use Rattle.answers.specs.Pick.{pick}
use Rattle.std.proofs.Common.{arith}
use Rattle.scan.specs.Bins.{same_geometry}
use Rattle.scan_calls.proofs.rules.same_geometry.Goals as goal

pub returns-then-g-h-5 : goal.returns-then-g-h-5
unfolding same_geometry
returns-then-g-h-5 c = search cases

pub returns-else-g-h-5 : goal.returns-else-g-h-5
unfolding same_geometry pick
returns-else-g-h-5 c = grind (arith, cases)
