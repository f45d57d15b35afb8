-- `recording::u64_at` meets its contract: byte by byte.
use native.Mathlib.Omega.{arith}
use Rattle.recording.proofs.Laws.{number_eight}
use Rattle.recording.proofs.u64_at.Goals as goal

pub returns : goal.returns
returns c =
    let a = c.args in
    omega (arith, number_eight a.s.now a.at c.requires)
