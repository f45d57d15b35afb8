-- `recording_make::within_limit` meets its contract.
use native.Mathlib.Omega.{arith}
use mathlib.Core.Path.{sym}
use Prim.Native.Nat.{◌+◌}
use borrow.Author.Tests.{lt-leb}
use Rattle.answers.specs.Numbers.{limit}
use Rattle.recording_make.proofs.within_limit.Goals as goal

pub returns-then-start-gt-LIMIT : goal.returns-then-start-gt-LIMIT
returns-then-start-gt-LIMIT c = sym (lt-leb (c.args.start + c.args.samples) limit (omega arith))
