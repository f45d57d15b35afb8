use Rattle.answers.proofs.Cases.{cases}
use Rattle.fine.specs.Calls.{search_range}
use Rattle.fine.proofs.Laws.{back_off_fits}
use Rattle.fine.proofs.Fine.search_range.Goals as goal

pub returns-then-refusal-ne0 : goal.returns-then-refusal-ne0
unfolding search_range
returns-then-refusal-ne0 c = search (cases, ← c.refusal-refusal.ensures)

pub overflow_add-result : goal.overflow_add-result
overflow_add-result c = back_off_fits c.args.self _ c.refusal-refusal.ensures c.if-refusal-ne0.false

pub returns : goal.returns
unfolding search_range
returns c = search (cases, ← c.refusal-refusal.ensures)
