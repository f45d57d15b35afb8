use Prim.Native.Nat.{◌-◌}
use Rattle.convert_host.specs.Work.{AllFit, Rooms}
use Rattle.convert_host.proofs.writing.all.Given as goal

abbrev pub invariant-loop-direction : goal.invariant-loop-direction
invariant-loop-direction l =
    (AllFit l.work) × (Rooms l.er l.eo l.fr l.fo l.nr l.no)

abbrev pub decreases-loop-direction : goal.decreases-loop-direction
decreases-loop-direction l =
    l.header.events - l.number
