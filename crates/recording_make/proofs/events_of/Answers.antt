-- `recording_make::events_of` meets its contract.
use borrow.Author.Rules.{rules}
use native.Mathlib.Omega.{arith}
use mathlib.Core.Path.{refl}
use Prim.Native.Nat.{◌/◌}
use Rattle.recording_make.proofs.Laws.{few_events}
use Rattle.recording_make.proofs.events_of.Goals as goal

pub overflow_cast-result-2 : goal.overflow_cast-result-2
overflow_cast-result-2 c = omega (arith, few_events (c.args.rate / 100) c.args.samples (omega arith) (search rules))

pub returns : goal.returns
returns c = (refl, few_events (c.args.rate / 100) c.args.samples (omega arith) (search rules))
