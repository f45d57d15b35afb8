-- `ring_window::storing::after` meets its contract.
use Prim.Native.Nat.{ℕ, ◌%◌}
use mathlib.Core.Path.{sym, ap, ◌∙◌}
use native.Mathlib.Nat.{mod_self, mod-eq_of_lt}
use native.Mathlib.Omega.{arith}
use Rattle.ring_window.proofs.storing.after.Goals as goal

pub returns-then-slot-capacity : goal.returns-then-slot-capacity
returns-then-slot-capacity c = let a = c.args in sym (ap (λ (k : ℕ). k % a.capacity) c.if-slot-capacity.true ∙ mod_self a.capacity)

pub returns : goal.returns
returns c = sym (mod-eq_of_lt (omega (arith, c.requires, c.if-slot-capacity.false)))
