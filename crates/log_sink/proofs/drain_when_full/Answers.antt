-- `log_sink::drain_when_full` meets its contract.
use native.Mathlib.Omega.{arith}
use mathlib.Core.Path.{refl}
use Rattle.log_sink.proofs.drain_when_full.Goals as goal

pub returns-then-room-text : goal.returns-then-room-text
returns-then-room-text c = (omega (arith, c.drain.ensures.0), c.drain.ensures.1, λ r. absurd (omega (arith, r, c.if-room-text.true)))

pub returns : goal.returns
returns c = (omega (arith, c.if-room-text.false), refl, λ r. refl)
