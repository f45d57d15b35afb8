-- `scan_handover::part::finite_between` meets its contract.
use mathlib.Core.Path.{sym, ap, ◌∙◌}
use borrow.Author.Tests.{le-leb}
use Rattle.folds.specs.Sums.{all_finite}
use Rattle.scan_handover.proofs.Gathers.{part_is, none_between}
use Rattle.scan_handover.proofs.part.finite_between.Goals as goal

pub returns-then-end-from : goal.returns-then-end-from
unfolding all_finite
returns-then-end-from c = let a = c.args in le-leb _ _ c.if-end-from.true ∙ sym (ap all_finite (none_between a.samples.now a.from a.end c.if-end-from.true))

pub returns-else-end-from : goal.returns-else-end-from
returns-else-end-from c = let a = c.args in c.all_finite.ensures ∙ ap all_finite (part_is a.samples.now a.from a.end)
