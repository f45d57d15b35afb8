-- `log_hold::is_line` meets its contract.
use native.Mathlib.Omega.{arith}
use mathlib.Core.Path.{sym, ap, ◌∙◌}
use lib.Seq.{length-take-le}
use Rattle.log_lines.proofs.Answers.{line_short}
use Rattle.log_text.specs.Text.{same_text}
use Rattle.log_hold.proofs.Holding.{finds_room, written_size, written_text}
use Rattle.log_hold.proofs.is_line.Goals as goal

pub slice_bounds-same_text-end : goal.slice_bounds-same_text-end
slice_bounds-same_text-end c = omega (arith, line_short c.args.line, written_size c.args.line c.args.room.now c.requires c.in-Some.is c.write_line.ensures.0, c.requires, c.write_line.auto.out)

pub slice_bounds-same_text-end-in-Some : goal.slice_bounds-same_text-end-in-Some
slice_bounds-same_text-end-in-Some c = sym (length-take-le _ _ (omega (arith, line_short c.args.line, written_size c.args.line c.args.room.now c.requires c.in-Some.is c.write_line.ensures.0, c.requires, c.write_line.auto.out)))

pub returns-in-None : goal.returns-in-None
returns-in-None c = absurd (finds_room c.args.line c.args.room.now c.requires c.in-None.is c.write_line.ensures.0)

pub returns-in-Some : goal.returns-in-Some
returns-in-Some c = c.same_text.ensures ∙ ap (λ t. same_text c.args.text.now t) (written_text c.args.line c.args.room.now c.requires c.in-Some.is c.write_line.ensures.0 c.write_line.ensures.1)
