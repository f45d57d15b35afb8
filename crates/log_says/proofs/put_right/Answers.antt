-- `log_says::put_right` meets its contract.
use native.Mathlib.Omega.{arith}
use Rattle.log_lines.proofs.Laws.{then}
use Rattle.log_lines.proofs.Answers.{line_short}
use Rattle.log_says.specs.Says.{should_text}
use Rattle.log_says.proofs.put_right.Goals as goal

pub put-requires : goal.put-requires
put-requires c = omega (arith, line_short c.args.line, c.put_line_at-end.ensures.place, c.put_line_at-end.auto.out, c.put-next.ensures.place, c.put-next.auto.out, c.requires)

pub returns : goal.returns
unfolding should_text
returns c = then (then c.put-next.ensures c.put_line_at-end.ensures) c.put.ensures
