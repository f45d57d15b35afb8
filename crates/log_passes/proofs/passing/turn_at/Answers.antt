-- `log_passes::passing::turn_at` meets its contract.
use mathlib.Core.Path.{sym}
use native.Mathlib.Omega.{arith}
use lib.Seq.{length-take-le}
use Rattle.log_lines.proofs.Answers.{front}
use Rattle.log_passes.proofs.Sides.{side_short}
use Rattle.log_passes.specs.Passing.{turn_at}
use Rattle.log_passes.proofs.passing.turn_at.Goals as goal

pub slice_bounds-text-end : goal.slice_bounds-text-end
slice_bounds-text-end c = omega (arith, side_short c.args.first, c.put_side-m.ensures.place, c.put_side-m.auto.out)

pub slice_bounds-turn_of-end : goal.slice_bounds-turn_of-end
slice_bounds-turn_of-end c = sym (length-take-le _ _ (omega (arith, side_short c.args.first, c.put_side-m.ensures.place, c.put_side-m.auto.out)))

pub slice_bounds-other-end : goal.slice_bounds-other-end
slice_bounds-other-end c = omega (arith, side_short c.args.second, c.put_side-n.ensures.place, c.put_side-n.auto.out)

pub slice_bounds-turn_of-end-2 : goal.slice_bounds-turn_of-end-2
slice_bounds-turn_of-end-2 c = sym (length-take-le _ _ (omega (arith, side_short c.args.second, c.put_side-n.ensures.place, c.put_side-n.auto.out)))

pub returns : goal.returns
unfolding turn_at
returns c =
    let text = front c.put_side-m.ensures (omega (arith, side_short c.args.first, c.put_side-m.ensures.place, c.put_side-m.auto.out)) in
    let other = front c.put_side-n.ensures (omega (arith, side_short c.args.second, c.put_side-n.ensures.place, c.put_side-n.auto.out)) in
    rw (← c.front_at.ensures, ← c.front_at-2.ensures, ← text, ← other) c.turn_of.ensures
