-- `ring::slot` meets its contract.
use native.Mathlib.Nat.{mod-lt}
use borrow.Author.Rules.{rules}
use Rattle.ring.proofs.slot.Goals as goal

pub returns : goal.returns
returns c = (search rules, mod-lt _ c.requires)
