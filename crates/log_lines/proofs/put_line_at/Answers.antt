-- `log_lines::put_line_at` meets its contract.
use mathlib.Core.Path.{sym}
use native.Mathlib.Omega.{arith}
use lib.Seq.{length-take-le}
use Rattle.log_lines.proofs.Answers.{line_short, front}
use Rattle.log_lines.proofs.put_line_at.Goals as goal

pub slice_bounds-text-end : goal.slice_bounds-text-end
slice_bounds-text-end c = omega (arith, line_short c.args.line, c.put_line-n.ensures.place, c.put_line-n.auto.out)

pub slice_bounds-put-end : goal.slice_bounds-put-end
slice_bounds-put-end c = sym (length-take-le _ _ (omega (arith, line_short c.args.line, c.put_line-n.ensures.place, c.put_line-n.auto.out)))

pub put-requires : goal.put-requires
put-requires c = omega (arith, length-take-le c.put_line-n.result c.put_line-n.new.out (omega (arith, line_short c.args.line, c.put_line-n.ensures.place, c.put_line-n.auto.out)), line_short c.args.line, c.put_line-n.ensures.place)

pub returns : goal.returns
returns c = rw (← front c.put_line-n.ensures (omega (arith, line_short c.args.line, c.put_line-n.ensures.place, c.put_line-n.auto.out))) c.put.ensures
