-- `convert_host::writing::all` meets its contract.
use mathlib.Core.Path.{sym, ◌∙◌}
use native.Mathlib.Omega.{arith}
use Rattle.convert_host.proofs.writing.all.Goals as goal

pub loop-direction-init : goal.loop-direction-init
loop-direction-init c = (c.requires.0, c.requires.1)

pub turn-work-requires : goal.turn-work-requires
turn-work-requires c = (c.loop-direction.invariant.0, c.loop-direction.invariant.1)

pub overflow_add-number : goal.overflow_add-number
overflow_add-number c = omega (arith, (c.goes_on.ensures c.loop-direction-test.true).1)

pub loop-direction-smaller : goal.loop-direction-smaller
loop-direction-smaller c = omega (arith, (c.goes_on.ensures c.loop-direction-test.true).0)

pub loop-direction-preserved : goal.loop-direction-preserved
loop-direction-preserved c =
    let rooms = c.loop-direction.invariant.1 in
    (c.turn-work.ensures, record { er = c.turn-work.auto.er ∙ rooms.er; eo = c.turn-work.auto.eo ∙ rooms.eo; fr = c.turn-work.auto.fr ∙ rooms.fr; fo = c.turn-work.auto.fo ∙ rooms.fo; nr = c.turn-work.auto.nr ∙ rooms.nr; no = c.turn-work.auto.no ∙ rooms.no })

pub shape_of-er : goal.shape_of-er
shape_of-er c = c.loop-direction.invariant.1.er ∙ sym c.requires.1.er

pub shape_of-eo : goal.shape_of-eo
shape_of-eo c = c.loop-direction.invariant.1.eo ∙ sym c.requires.1.eo

pub shape_of-fr : goal.shape_of-fr
shape_of-fr c = c.loop-direction.invariant.1.fr ∙ sym c.requires.1.fr

pub shape_of-fo : goal.shape_of-fo
shape_of-fo c = c.loop-direction.invariant.1.fo ∙ sym c.requires.1.fo

pub shape_of-nr : goal.shape_of-nr
shape_of-nr c = c.loop-direction.invariant.1.nr ∙ sym c.requires.1.nr

pub shape_of-no : goal.shape_of-no
shape_of-no c = c.loop-direction.invariant.1.no ∙ sym c.requires.1.no

pub returns : goal.returns
returns c = (c.loop-direction.invariant.0, c.loop-direction.invariant.1)
