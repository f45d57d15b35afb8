-- `Ring::get` meets its contract.
use Rattle.std.proofs.Common.{arith}
use Rattle.answers.proofs.Cases.{cases}
use Rattle.ring.specs.Ring.{gotten}
use Rattle.ring.proofs.Ring.get.Goals as goal

pub returns-then-refusal-ne0 : goal.returns-then-refusal-ne0
unfolding gotten
returns-then-refusal-ne0 c = search (cases, ← c.refusal-refusal.ensures)

pub returns-then-at-saturating_sub : goal.returns-then-at-saturating_sub
unfolding gotten
returns-then-at-saturating_sub c = let s = c.saturating_sub.ensures in grind (arith, cases, s, c.refusal-refusal.ensures)

pub returns : goal.returns
unfolding gotten
returns c = let s = c.saturating_sub.ensures in grind (arith, cases, s, c.refusal-refusal.ensures, c.slot.ensures.0)
