-- `log_lines::after_digit` meets its contract.
use Rattle.answers.specs.Pick.{pick_true, pick_false}
use Rattle.log_lines.proofs.after_digit.Goals as goal

pub returns-then-s : goal.returns-then-s
returns-then-s c = rw (pick_true _ _ _ c.if-s.true, c.shift.ensures, c.if-s.true)

pub returns-else-s : goal.returns-else-s
returns-else-s c = rw (pick_false _ _ _ c.if-s.false)
