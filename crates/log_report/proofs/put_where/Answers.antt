-- `log_report::put_where` meets its contract.
use native.Mathlib.Omega.{arith}
use Rattle.log_lines.proofs.Laws.{then, decimal_short}
use Rattle.log_report.specs.Texts.{where_text}
use Rattle.log_report.proofs.put_where.Goals as goal

pub put-requires : goal.put-requires
put-requires c = omega (arith, c.put_number-c.ensures.place, c.put_number-c.auto.out, c.put-b.ensures.place, c.put-b.auto.out, c.put-a.ensures.place, c.put-a.auto.out, decimal_short c.args.place)

pub returns : goal.returns
unfolding where_text
returns c = then (then (then c.put-a.ensures c.put-b.ensures) c.put_number-c.ensures) c.put.ensures
