-- `recording_shorts::size_of` meets its contract.
use native.Mathlib.Omega.{arith}
use Rattle.recording_shorts.proofs.Patterns.{no_size, size_is}
use Rattle.recording_shorts.proofs.size_of.Goals as goal

pub returns-then-field-lt112 : goal.returns-then-field-lt112
returns-then-field-lt112 c = no_size c.args.pattern (λ a b. omega arith)

pub returns-then-field-gt127 : goal.returns-then-field-gt127
returns-then-field-gt127 c = no_size c.args.pattern (λ a b. omega arith)

pub returns : goal.returns
returns c = size_is c.args.pattern (omega arith)
