-- `scan_push::near::held_at` meets its contract.
use mathlib.Core.Path.{◌∙◌}
use Rattle.std.proofs.Common.{arith}
use Rattle.answers.specs.Pick.{pick}
use Rattle.answers.proofs.Cases.{cases}
use Rattle.scan_push.proofs.Pushing.{held_none}
use Rattle.scan_push.proofs.near.held_at.Goals as goal

pub returns-then-idle : goal.returns-then-idle
unfolding pick
returns-then-idle c = grind (arith, cases)

pub returns : goal.returns
returns c =
    let a = c.args in
    c.empty.ensures ∙ held_none a.n a.index c.idle.ensures c.if-idle.false c.follows.ensures c.if-follows.false
