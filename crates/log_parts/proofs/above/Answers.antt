-- `log_parts::above` meets its contract: a number above the last is at least the one behind it.
use Rattle.std.proofs.Common.{rules}
use Rattle.log_parts.specs.Judged.{least_after}
use Rattle.log_parts.proofs.Judging.{above_none, above_last}
use Rattle.log_parts.proofs.above.Goals as goal

pub returns : goal.returns
unfolding least_after
returns c = search (rules, above_none, above_last, c.is_none_or.ensures)
