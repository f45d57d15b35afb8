-- `parts_walks::judge::heed` meets its contract, arm by arm.
use mathlib.Core.Path.{refl}
use Rattle.pipes.proofs.Going.{passes, grows}
use Rattle.parts_walks.proofs.Judging.{heeds}
use Rattle.parts_walks.proofs.judge.heed.Goals as goal

pub returns-in-Goes : goal.returns-in-Goes
returns-in-Goes c =
    let p = c.past.ensures in
    heeds _ _ _ _ _ _ c.in-Goes.is (passes _ _ _ _ c.requires.0 p.0 p.1 p.2 p.3)

pub returns-in-Wants : goal.returns-in-Wants
returns-in-Wants c = heeds _ _ _ _ _ _ c.in-Wants.is (grows _ _ _ _ c.refill.ensures)

pub returns-in-Over : goal.returns-in-Over
returns-in-Over c = heeds _ _ _ _ _ _ c.in-Over.is (refl, refl)

pub returns-in-Strange : goal.returns-in-Strange
returns-in-Strange c = heeds _ _ _ _ _ _ c.in-Strange.is (refl, refl)
