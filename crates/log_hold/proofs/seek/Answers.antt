-- `log_hold::seek` meets its contract: what was read joins the bytes at hand, and each read leaves fewer bytes that may be read.
use native.Mathlib.Omega.{arith}
use mathlib.Core.Path.{sym, ap, ◌∙◌}
use Rattle.pipes.specs.Window.{at_hand}
use Rattle.log_hold.specs.Held.{wanting}
use Rattle.log_hold.proofs.Holding.{wants_more}
use Rattle.log_hold.proofs.Seeking.{sought_first, sought_on}
use Rattle.log_hold.proofs.seek.Goals as goal

pub loop-stands-init : goal.loop-stands-init
loop-stands-init c = (sought_first _ _ _ _ c.requires.0 c.look-stands.ensures, c.requires.1)

pub refill-at-requires : goal.refill-at-requires
refill-at-requires c = (c.loop-stands.invariant.0.within, c.loop-stands.invariant.1)

pub look-stands-requires-in-loop-stands : goal.look-stands-requires-in-loop-stands
look-stands-requires-in-loop-stands c = (c.refill-at.ensures.within, c.refill-at.auto.room ∙ c.loop-stands.invariant.1)

pub loop-stands-smaller : goal.loop-stands-smaller
loop-stands-smaller c =
    let at = c.loop-stands in
    let wanted = sym (c.wants.ensures ∙ ap wanting at.invariant.0.stands) ∙ c.loop-stands-test.true in
    omega (arith, wants_more _ (at_hand at.at at.room) at.at.left wanted, c.refill-at.ensures.falls)

pub loop-stands-preserved : goal.loop-stands-preserved
loop-stands-preserved c =
    let at = c.loop-stands in
    (sought_on _ _ _ _ _ _ _ _ _ at.invariant.0 c.refill-at.ensures c.look-stands-in-loop-stands.ensures, c.refill-at.auto.room ∙ at.invariant.1)

pub shape_of-room : goal.shape_of-room
shape_of-room c = c.loop-stands.invariant.1 ∙ sym c.requires.1

pub returns : goal.returns
returns c = (c.loop-stands.invariant.0, sym c.wants.ensures ∙ c.loop-stands-test.false)
