-- `log_lines::write_line` meets its contract: the line is put together apart, and copied where there is room.
use Rattle.std.proofs.Common.{sym, arith, length-take-le}
use Rattle.log_lines.proofs.Answers.{line_short, front, no_room, room}
use Rattle.log_lines.proofs.write_line.Goals as goal

pub returns-then-out-n : goal.returns-then-out-n
returns-then-out-n c = no_room _ _ _ c.put_line-n.ensures.place c.if-out-n.true

pub slice_bounds-text-end : goal.slice_bounds-text-end
slice_bounds-text-end c = omega (arith, line_short c.args.line, c.put_line-n.auto.out)

pub slice_bounds-put-end : goal.slice_bounds-put-end
slice_bounds-put-end c = sym (length-take-le _ _ (omega (arith, line_short c.args.line, c.put_line-n.auto.out)))

pub put-requires : goal.put-requires
put-requires c = omega (arith, length-take-le c.put_line-n.result c.put_line-n.new.out (omega (arith, line_short c.args.line, c.put_line-n.auto.out)))

pub returns : goal.returns
returns c =
    room _ _ _ _ _ _ c.put_line-n.ensures.place c.if-out-n.false (front c.put_line-n.ensures (omega (arith, line_short c.args.line, c.put_line-n.auto.out))) c.put.ensures
