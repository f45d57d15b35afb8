-- `recording::header_length` meets its contract.
use native.Mathlib.Omega.{arith}
use Rattle.answers.proofs.Cases.{cases}
use Rattle.answers.specs.Pick.{pick}
use Rattle.recording.specs.Recording.{header_length}
use Rattle.recording.proofs.header_length.Goals as goal

pub returns-then-u32_at-eq28 : goal.returns-then-u32_at-eq28
unfolding header_length pick
returns-then-u32_at-eq28 c = grind (arith, cases)

pub returns-else-s-ge24 : goal.returns-else-s-ge24
unfolding header_length pick
returns-else-s-ge24 c = grind (arith, cases)
