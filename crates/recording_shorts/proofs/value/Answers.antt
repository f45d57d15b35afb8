-- `recording_shorts::value` meets its contract: the division is that of the definition.
use borrow.Author.Rules.{rules}
use Rattle.recording_shorts.proofs.Laws.{cast_divided}
use Rattle.recording_shorts.proofs.value.Goals as goal

pub returns : goal.returns
returns c = cast_divided c.args.n (search rules) (search rules) (search rules)
