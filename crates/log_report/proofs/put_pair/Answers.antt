-- `log_report::put_pair` meets its contract.
use native.Mathlib.Omega.{arith}
use mathlib.Core.List.{◌∷◌}
use Rattle.log_lines.proofs.Laws.{then}
use Rattle.log_lines.specs.Text.{ascii}
use Rattle.log_report.proofs.Lengths.{marked_short}
use Rattle.log_report.specs.Texts.{differ_text}
use Rattle.log_report.proofs.put_pair.Goals as goal

pub put_marked-last-requires : goal.put_marked-last-requires
put_marked-last-requires c = omega (arith, c.put_marked-next.ensures.place, c.put_marked-next.auto.out, marked_short (10 ∷ ascii "< ") c.args.x)

pub put-requires : goal.put-requires
put-requires c = omega (arith, c.put_marked-last.ensures.place, c.put_marked-last.auto.out, c.put_marked-next.ensures.place, c.put_marked-next.auto.out, marked_short (10 ∷ ascii "< ") c.args.x, marked_short (10 ∷ ascii "> ") c.args.y)

pub returns : goal.returns
unfolding differ_text
returns c = then (then c.put_marked-next.ensures c.put_marked-last.ensures) c.put.ensures
