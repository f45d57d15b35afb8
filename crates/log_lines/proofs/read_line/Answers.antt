-- `log_lines::read_line` meets its contract: the one line that the text may be is written again and compared.
use Rattle.std.proofs.Common.{sym, ap, ◌∙◌, true≢false, arith, length-take-le}
use Rattle.log_lines.specs.Steps.{guessed}
use Rattle.log_lines.proofs.Answers.{line_short, front, outside, differs, reads as reads-line}
use Rattle.log_lines.proofs.read_line.Goals as goal

pub returns-then-not-in_range : goal.returns-then-not-in_range
returns-then-not-in_range c = outside _ _ (c.guess-line.ensures ∙ ap guessed c.look.ensures) (sym c.in_range.ensures ∙ c.if-not-in_range.true)

pub slice_bounds-again-end : goal.slice_bounds-again-end
slice_bounds-again-end c = omega (arith, line_short c.guess-line.result, c.put_line-n.auto.out)

pub slice_bounds-same-end : goal.slice_bounds-same-end
slice_bounds-same-end c = sym (length-take-le _ _ (omega (arith, line_short c.guess-line.result, c.put_line-n.auto.out)))

pub returns-then-same : goal.returns-then-same
returns-then-same c = reads-line _ _ _ (c.guess-line.ensures ∙ ap guessed c.look.ensures) (sym c.in_range.ensures ∙ c.if-not-in_range.false) (front c.put_line-n.ensures (omega (arith, line_short c.guess-line.result, c.put_line-n.auto.out))) (c.same.ensures.0 c.if-same.true)

pub returns-else-same : goal.returns-else-same
returns-else-same c = differs _ _ _ (c.guess-line.ensures ∙ ap guessed c.look.ensures) (front c.put_line-n.ensures (omega (arith, line_short c.guess-line.result, c.put_line-n.auto.out))) (λ e. true≢false (sym (c.same.ensures.1 e) ∙ c.if-same.false))
