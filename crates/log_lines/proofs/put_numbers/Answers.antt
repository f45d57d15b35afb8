-- `log_lines::put_numbers` meets its contract: one after the other.
use Rattle.std.proofs.Common.{append_assoc, arith}
use Rattle.log_lines.proofs.Laws.{then, number_short}
use Rattle.log_lines.proofs.put_numbers.Goals as goal

pub put_number-requires : goal.put_number-requires
put_number-requires c = omega (arith, number_short c.args.words.now c.args.m)

pub returns : goal.returns
returns c = rw append_assoc (then c.put_number-next.ensures c.put_number.ensures)
