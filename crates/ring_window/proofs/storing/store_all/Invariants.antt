use Prim.Native.Nat.{◌+◌, ◌%◌}
use mathlib.Core.Path.{◌≡◌}
use mathlib.Core.List.{map}
use lib.ListN.{length, drop}
use lib.Ieee.{binary32, to_bits}
use Rattle.ring.specs.Ring.{stored}
use Rattle.ring_window.proofs.storing.store_all.Given as goal

abbrev pub invariant-loop-sample : goal.invariant-loop-sample
invariant-loop-sample l =
    (length l.buf ≡ length l.initial.buf) × (l.slot ≡ (l.next + l.sample-index) % length l.initial.buf)
    × (stored (l.next + l.sample-index) l.buf (map (to_bits binary32) (drop l.sample-index l.samples)) ≡ stored l.next l.initial.buf (map (to_bits binary32) l.samples))
