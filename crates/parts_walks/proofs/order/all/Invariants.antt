use Prim.Native.Nat.{ℕ}
use mathlib.Core.Path.{◌≡◌}
use lib.ListN.{length}
use Rattle.parts_walks.specs.Inputs.{BothWithin}
use Rattle.parts_walks.specs.Ordered.{OrderWalked}
use Rattle.parts_walks.proofs.order.all.Given as goal

abbrev pub invariant-loop : goal.invariant-loop
invariant-loop l =
    (BothWithin l.walk.inputs)
    × (length l.first ≡ length l.initial.first)
    × (length l.second ≡ length l.initial.second)
    × (length l.first ≡ 65536)
    × (length l.second ≡ 65536)
    × (OrderWalked l.initial.walk l.initial.first l.initial.second l.walk l.first l.second)
