-- `log_report::put_counts` meets its contract.
use native.Mathlib.Omega.{arith}
use lib.ListN.{length-append}
use Rattle.log_lines.proofs.Laws.{then, decimal_short}
use Rattle.log_report.specs.Texts.{counts_text}
use Rattle.log_report.proofs.put_counts.Goals as goal

pub put-requires : goal.put-requires
put-requires c = omega (arith, simp length-append at c.put_numbers-next.ensures.place, c.put_numbers-next.auto.out, decimal_short c.args.frames, decimal_short c.args.cycles)

pub returns : goal.returns
unfolding counts_text
returns c = then c.put_numbers-next.ensures c.put.ensures
