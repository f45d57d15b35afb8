-- `recording::u32_at` meets its contract: byte by byte.
use native.Mathlib.Omega.{arith}
use Rattle.recording.proofs.Laws.{number_four}
use Rattle.recording.proofs.u32_at.Goals as goal

pub returns : goal.returns
returns c =
    let a = c.args in
    omega (arith, number_four a.s.now a.at c.requires)
