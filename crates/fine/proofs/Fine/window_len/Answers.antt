use Rattle.answers.proofs.Cases.{cases}
use Rattle.fine.specs.Calls.{window_len, samples_reported}
use Rattle.fine.proofs.Laws.{window_fits}
use Rattle.fine.proofs.Fine.window_len.Goals as goal

pub returns-then-refusal-ne0 : goal.returns-then-refusal-ne0
unfolding window_len samples_reported
returns-then-refusal-ne0 c = search (cases, ← c.refusal-refusal.ensures)

pub overflow_add-result : goal.overflow_add-result
overflow_add-result c = window_fits c.args.self _ c.refusal-refusal.ensures c.if-refusal-ne0.false

pub returns : goal.returns
unfolding window_len samples_reported
returns c = search (cases, ← c.refusal-refusal.ensures)
