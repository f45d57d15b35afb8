-- `wav::frame_of` meets its contract.
use borrow.Author.Rules.{rules}
use native.Mathlib.Omega.{arith}
use Rattle.wav.proofs.Laws.{frame_most}
use Rattle.wav.proofs.frame_of.Goals as goal

pub overflow_mul-result : goal.overflow_mul-result
overflow_mul-result c =
    let a = c.args in
    rw c.width_of.ensures (omega (arith, frame_most a.kind a.channels (search rules)))

pub returns : goal.returns
returns c = rw c.width_of.ensures
