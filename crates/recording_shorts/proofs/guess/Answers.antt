-- `recording_shorts::guess` meets its contract.
use native.Mathlib.Omega.{arith}
use Rattle.recording_shorts.proofs.Patterns.{guess_large, guess_positive, guess_none, guess_negative}
use Rattle.recording_shorts.proofs.guess.Goals as goal

pub returns-then-size-gt32768 : goal.returns-then-size-gt32768
returns-then-size-gt32768 c = guess_large c.args.bits c.size_of-size.result c.size_of-size.ensures (omega arith)

pub returns-then-bits-lt-SIGN : goal.returns-then-bits-lt-SIGN
returns-then-bits-lt-SIGN c = guess_positive c.args.bits c.size_of-size.result c.size_of-size.ensures (omega arith)

pub returns-then-size-eq0 : goal.returns-then-size-eq0
returns-then-size-eq0 c = guess_none c.args.bits c.size_of-size.result c.size_of-size.ensures (omega arith) (omega arith)

pub returns : goal.returns
returns c = guess_negative c.args.bits c.size_of-size.result c.size_of-size.ensures (omega arith)
