-- `start` meets its contract: refused, or all buffers cleared.
use borrow.Author.Rules.{rules}
use Rattle.replay.proofs.Beginnings.{not_begun, within_table, has_begun}
use Rattle.replay.proofs.start.Goals as goal

pub returns-then-n-ne0 : goal.returns-then-n-ne0
returns-then-n-ne0 c = not_begun c.args.header _ c.refusal-n.ensures c.if-n-ne0.true

pub new_session-requires : goal.new_session-requires
new_session-requires c =
    within_table c.args.header _ c.refusal-n.ensures c.if-n-ne0.false

pub shape_of-envelope : goal.shape_of-envelope
shape_of-envelope c = search (rules, c.envelope-1)

pub returns : goal.returns
returns c =
    has_begun c.args.header _ c.refusal-n.ensures _ _ c.if-n-ne0.false c.new_session.ensures c.clear.ensures
