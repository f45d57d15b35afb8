-- `log_lines::after_byte` meets its contract.
use Rattle.std.proofs.Common.{◌≡◌, false, arith}
use Rattle.answers.specs.Pick.{pick_true, pick_false}
use Rattle.log_lines.specs.Steps.{is_digit}
use Rattle.log_lines.proofs.Guesses.{digit_yes, digit_low, digit_high}
use Rattle.log_lines.proofs.after_byte.Goals as goal
use Rattle.log_lines.proofs.after_byte.Goals.{in_default-via-then-byte-lt48, in_default-via-else-byte-lt48+else-byte-lt58}

pub returns-in-48-to-57 : goal.returns-in-48-to-57
returns-in-48-to-57 c = rw (c.after_digit.ensures, c.from.ensures, pick_true _ _ _ (digit_yes c.args.byte (omega arith) (omega arith)))

pub returns-in_default : goal.returns-in_default
returns-in_default c =
    let h : is_digit c.args.byte ≡ false =
    elim c.in_default.branch [ in_default-via-then-byte-lt48 w ↦ digit_low _ (omega arith) | in_default-via-else-byte-lt48+else-byte-lt58 w ↦ digit_high _ (omega arith) ]
    in rw (pick_false _ _ _ h, c.from-in_default.ensures)
