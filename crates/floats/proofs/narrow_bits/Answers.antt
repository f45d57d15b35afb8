-- `floats::narrow_bits` meets its contract: the usual case, and any.
use native.Mathlib.Omega.{arith}
use Rattle.floats.proofs.Narrowing.{narrow_plain}
use Rattle.floats.proofs.Laws.{narrow_bits_meets}
use Rattle.floats.proofs.narrow_bits.Goals as goal

pub narrow_usual-requires : goal.narrow_usual-requires
narrow_usual-requires c = c.is_usual.ensures c.if-is_usual.true

pub returns-then-is_usual : goal.returns-then-is_usual
returns-then-is_usual c =
    narrow_bits_meets c.args.b _ (narrow_plain _ _ (omega (arith, c.is_usual.ensures c.if-is_usual.true)) c.narrow_usual.ensures.is)

pub returns : goal.returns
returns c = c.narrow_any.ensures
