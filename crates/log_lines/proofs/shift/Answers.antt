-- `log_lines::shift` meets its contract.
use Rattle.std.proofs.Common.{◌+◌, ◌*◌, ◌^◌, arith, le-ltb, lt-ltb}
use Rattle.answers.specs.Pick.{pick_true, pick_false}
use Rattle.log_lines.proofs.shift.Goals as goal

pub returns-then-v-d : goal.returns-then-v-d
returns-then-v-d c = rw (pick_true _ _ _ (lt-ltb (c.args.v * 10 + c.args.d) (2 ^ 64) (omega arith)))

pub returns-else-v-d : goal.returns-else-v-d
returns-else-v-d c = rw (pick_false _ _ _ (le-ltb (c.args.v * 10 + c.args.d) (2 ^ 64) (omega arith)))
