-- `scan_score::window::slot_after` meets its contract: by its test.
use Rattle.scan_score.proofs.Slots.{further, wraps}
use borrow.Author.Rules.{rules}
use native.Mathlib.Omega.{arith}
use Rattle.scan_score.proofs.window.slot_after.Goals as goal

pub returns-then-slot-len : goal.returns-then-slot-len
returns-then-slot-len c = λ j e. further c.args.slot c.args.len j (search rules) e

pub returns-else-slot-len : goal.returns-else-slot-len
returns-else-slot-len c = λ j e. wraps c.args.slot c.args.len j (omega arith) e
