-- `log_report::put_strange` meets its contract.
use native.Mathlib.Omega.{arith}
use Rattle.log_lines.proofs.Laws.{then}
use Rattle.log_report.proofs.Lengths.{where_short, why_short}
use Rattle.log_report.specs.Texts.{strange_text}
use Rattle.log_report.proofs.put_strange.Goals as goal

pub put_why-b-requires : goal.put_why-b-requires
put_why-b-requires c = omega (arith, c.put_where-a.ensures.place, c.put_where-a.auto.out, where_short c.args.name.now c.args.place)

pub put_shown-requires : goal.put_shown-requires
put_shown-requires c = omega (arith, c.put_why-b.ensures.place, c.put_why-b.auto.out, c.put_where-a.ensures.place, c.put_where-a.auto.out, where_short c.args.name.now c.args.place, why_short c.args.text.now)

pub returns : goal.returns
unfolding strange_text
returns c = then (then c.put_where-a.ensures c.put_why-b.ensures) c.put_shown.ensures
