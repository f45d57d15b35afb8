-- `lacks` meets its contract: no event has more than 4,096 samples.
use Rattle.recording.specs.Samples.{bytes_of}
use Rattle.recording.proofs.Forms.{bytes_mono}
use Rattle.replay_near.proofs.Decoding.{bytes_least}
use mathlib.Core.Path.{sym, ◌∙◌}
use native.Mathlib.Omega.{arith}
use Prim.Native.Nat.{min}
use lib.ListN.{length}
use borrow.Author.Tests.{lt-ltb}
use Rattle.replay_turn.proofs.Leaving.{lacks_is}
use Rattle.replay_turn.proofs.lacks.Goals as goal

pub returns-then-left-gt4096 : goal.returns-then-left-gt4096
returns-then-left-gt4096 c = let a = c.args in lt-ltb 4096 a.left (omega arith) ∙ sym (lt-ltb (min (length a.near.now) (bytes_of a.form 4096)) (bytes_of a.form a.left) (omega (arith, bytes_mono a.form 4097 a.left (omega arith), bytes_least a.form 1)))

pub returns-else-left-gt4096 : goal.returns-else-left-gt4096
returns-else-left-gt4096 c = let a = c.args in rw c.bytes_of.ensures (lacks_is a.form (length a.near.now) a.left (omega arith))
