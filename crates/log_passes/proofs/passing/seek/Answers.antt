-- `log_passes::passing::seek` meets its contract.
use mathlib.Core.Path.{sym, subst}
use lib.Seq.{length-take-le}
use Rattle.log_passes.specs.Taking.{Inside}
use Rattle.log_passes.specs.Passing.{sought_in}
use Rattle.log_passes.proofs.passing.seek.Goals as goal

pub slice_bounds-sought_text-end : goal.slice_bounds-sought_text-end
slice_bounds-sought_text-end c = sym (length-take-le _ _ (subst (Inside _) c.in-Text.is c.line_of.ensures.1))

pub returns-in-Text : goal.returns-in-Text
unfolding sought_in
returns-in-Text c = rw (← c.line_of.ensures.0, c.in-Text.is) c.sought_text.ensures

pub returns-in-Nothing : goal.returns-in-Nothing
unfolding sought_in
returns-in-Nothing c = rw (← c.line_of.ensures.0, c.in-Nothing.is)

pub returns-in-Wants : goal.returns-in-Wants
unfolding sought_in
returns-in-Wants c = rw (← c.line_of.ensures.0, c.in-Wants.is)

pub returns-in-Long : goal.returns-in-Long
unfolding sought_in
returns-in-Long c = rw (← c.line_of.ensures.0, c.in-Long.is)
