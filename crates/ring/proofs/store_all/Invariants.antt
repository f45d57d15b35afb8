use Prim.Native.Nat.{◌+◌}
use mathlib.Core.Path.{◌≡◌}
use lib.ListN.{length, drop}
use Rattle.ring.specs.Ring.{stored}
use Rattle.ring.proofs.store_all.Given as goal

abbrev pub invariant-loop-i : goal.invariant-loop-i
invariant-loop-i l =
    (length l.buf ≡ length l.initial.buf) × (stored (l.next + l.i) l.buf (drop l.i l.samples) ≡ stored l.next l.initial.buf l.samples)
