-- `recording::u16_at` meets its contract: byte by byte.
use native.Mathlib.Omega.{arith}
use Rattle.recording.proofs.Laws.{number_two}
use Rattle.recording.proofs.u16_at.Goals as goal

pub returns : goal.returns
returns c =
    let a = c.args in
    omega (arith, number_two a.s.now a.at c.requires)
