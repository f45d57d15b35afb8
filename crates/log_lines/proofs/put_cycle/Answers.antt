-- `log_lines::put_cycle` meets its contract: one after the other.
use Rattle.std.proofs.Common.{arith}
use Rattle.log_lines.specs.Lines.{text_of}
use Rattle.log_lines.proofs.Laws.{then, decimal_short}
use Rattle.log_lines.proofs.put_cycle.Goals as goal

pub put_verdict-requires : goal.put_verdict-requires
put_verdict-requires c = omega (arith, decimal_short c.args.cycle)

pub returns : goal.returns
unfolding text_of
returns c = then c.put_number-next.ensures c.put_verdict.ensures
