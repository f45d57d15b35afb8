-- `log_report::put_report` meets its contract.
use native.Mathlib.Omega.{arith}
use Rattle.log_lines.proofs.Laws.{then}
use Rattle.log_report.proofs.Lengths.{sections_short, order_short}
use Rattle.log_report.specs.Texts.{report_text}
use Rattle.log_report.proofs.put_report.Goals as goal

pub put_order-last-requires : goal.put_order-last-requires
put_order-last-requires c = omega (arith, c.put_sections-next.ensures.place, c.put_sections-next.auto.out, sections_short c.args.report)

pub put_counts-requires : goal.put_counts-requires
put_counts-requires c = omega (arith, c.put_order-last.ensures.place, c.put_order-last.auto.out, c.put_sections-next.ensures.place, c.put_sections-next.auto.out, sections_short c.args.report, order_short c.args.report)

pub returns : goal.returns
unfolding report_text
returns c = then (then c.put_sections-next.ensures c.put_order-last.ensures) c.put_counts.ensures
