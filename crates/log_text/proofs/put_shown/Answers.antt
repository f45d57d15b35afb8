-- `log_text::put_shown` meets its contract.
use native.Mathlib.Omega.{arith}
use mathlib.Core.Path.{sym}
use lib.Seq.{length-take-le}
use borrow.Author.Tests.{le-leb, lt-leb}
use Rattle.answers.specs.Pick.{pick_true, pick_false}
use Rattle.log_lines.proofs.Laws.{then}
use Rattle.log_text.specs.Shown.{shown_text}
use Rattle.log_text.proofs.put_shown.Goals as goal

pub returns-then-text-le75 : goal.returns-then-text-le75
unfolding shown_text
returns-then-text-le75 c = rw (pick_true _ _ _ (le-leb _ _ c.if-text-le75.true)) (then c.put-end.ensures c.put.ensures)

pub put-next-requires : goal.put-next-requires
put-next-requires c = omega (arith, length-take-le 75 c.args.text.now (omega arith))

pub put-requires-2 : goal.put-requires-2
put-requires-2 c = omega (arith, length-take-le 75 c.args.text.now (omega arith), c.put-next.ensures.place, c.put-next.auto.out)

pub returns : goal.returns
unfolding shown_text
returns c = rw (pick_false _ _ _ (lt-leb _ _ c.if-text-le75.false)) (then c.put-next.ensures c.put-2.ensures)

pub slice_bounds-put-end-2 : goal.slice_bounds-put-end-2
slice_bounds-put-end-2 c = sym (length-take-le 75 c.args.text.now (omega arith))
