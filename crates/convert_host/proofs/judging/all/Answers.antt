-- `convert_host::judging::all` is safe and ends.
use mathlib.Core.Path.{refl, ◌∙◌}
use native.Mathlib.Omega.{arith}
use Rattle.convert_host.proofs.judging.all.Goals as goal

pub loop-header-init : goal.loop-header-init
loop-header-init c = (c.first-j.ensures, refl)

pub turn-j-requires : goal.turn-j-requires
turn-j-requires c = (c.loop-header.invariant.0, c.loop-header.invariant.1 ∙ c.requires)

pub overflow_add-number : goal.overflow_add-number
overflow_add-number c = omega (arith, (c.goes_on.ensures c.loop-header-test.true).1)

pub loop-header-smaller : goal.loop-header-smaller
loop-header-smaller c = omega (arith, (c.goes_on.ensures c.loop-header-test.true).0)

pub loop-header-preserved : goal.loop-header-preserved
loop-header-preserved c = (c.turn-j.ensures, c.turn-j.auto.room ∙ c.loop-header.invariant.1)

pub shape_of-room : goal.shape_of-room
shape_of-room c = c.loop-header.invariant.1
