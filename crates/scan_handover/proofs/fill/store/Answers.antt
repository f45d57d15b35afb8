-- `scan_handover::fill::store` meets its contract.
use native.Mathlib.Omega.{arith}
use Rattle.scan_handover.proofs.fill.store.Goals as goal

pub offset_bounds-levels-slot : goal.offset_bounds-levels-slot
offset_bounds-levels-slot c = omega (arith, c.requires.1)

pub bounds-levels-slot : goal.bounds-levels-slot
bounds-levels-slot c = c.requires.1

pub returns : goal.returns
returns c = rw c.level_of.ensures
