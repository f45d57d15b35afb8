-- `log_passes::passing::is_of` meets its contract.
use mathlib.Core.Path.{ap, ◌∙◌}
use lib.Dec.{eqb}
use Rattle.log_parts.specs.Sorts.{rank, is_of}
use Rattle.log_passes.proofs.Sides.{same_sort}
use Rattle.log_passes.proofs.passing.is_of.Goals as goal

pub returns : goal.returns
unfolding is_of
returns c = c.eq.ensures ∙ same_sort c.args.sort c.sort_of.result ∙ ap (λ s. eqb (rank c.args.sort) (rank s)) c.sort_of.ensures
