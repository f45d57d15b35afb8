-- `floats::mark` meets its contract: the number is one too large, or the whole root, and exact or not.
use Rattle.floats.proofs.LongDivision.{mark_down, mark_down_more, mark_level, mark_more}
use Rattle.floats.proofs.mark.Goals as goal

pub returns-then-have-d : goal.returns-then-have-d
returns-then-have-d c = mark_down c.requires c.if-have-want.true c.if-have-d.true

pub returns-then-have-want : goal.returns-then-have-want
returns-then-have-want c = mark_down_more c.requires c.if-have-want.true c.if-have-d.false

pub returns-then-have-want-2 : goal.returns-then-have-want-2
returns-then-have-want-2 c = mark_level c.requires c.if-have-want.false c.if-have-want-2.true

pub returns : goal.returns
returns c = mark_more c.requires c.if-have-want.false c.if-have-want-2.false
