-- `scan_push::near::follows` meets its contract: 0 follows nothing.
use mathlib.Core.Path.{ap, ◌∙◌}
use mathlib.Core.Bool.{not}
use borrow.Author.Tests.{eq-eqb}
use Rattle.scan_push.proofs.Pushing.{follows_none, follows_some}
use Rattle.scan_push.proofs.near.follows.Goals as goal

pub returns-then-index-ne0 : goal.returns-then-index-ne0
returns-then-index-ne0 c = follows_some c.args.last c.args.index c.if-index-ne0.true

pub returns-else-index-ne0 : goal.returns-else-index-ne0
returns-else-index-ne0 c = ap not (eq-eqb _ _ c.if-index-ne0.false) ∙ follows_none c.args.last c.args.index c.if-index-ne0.false
