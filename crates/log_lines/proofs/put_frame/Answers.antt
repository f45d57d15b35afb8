-- `log_lines::put_frame` meets its contract: one after the other.
use Rattle.std.proofs.Common.{arith}
use Rattle.log_lines.specs.Lines.{text_of}
use Rattle.log_lines.proofs.Laws.{then, decimal_short}
use Rattle.log_lines.proofs.put_frame.Goals as goal

pub put_word-requires : goal.put_word-requires
put_word-requires c = omega (arith, decimal_short c.args.frame)

pub returns : goal.returns
unfolding text_of
returns c = then c.put_number-next.ensures c.put_word.ensures
