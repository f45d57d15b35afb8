-- `log_passes::beside::beside_of` meets its contract.
use mathlib.Core.Path.{sym, subst}
use lib.Seq.{length-take-le}
use Rattle.log_passes.specs.Taking.{Inside}
use Rattle.log_passes.specs.Beside.{beside_of}
use Rattle.log_passes.proofs.beside.beside_of.Goals as goal

pub slice_bounds-beside_first-end : goal.slice_bounds-beside_first-end
slice_bounds-beside_first-end c = sym (length-take-le _ _ (subst (Inside _) c.in-Text.is c.requires.0))

pub beside_first-requires : goal.beside_first-requires
beside_first-requires c = c.requires.1

pub returns-in-Text : goal.returns-in-Text
unfolding beside_of
returns-in-Text c = rw c.in-Text.is c.beside_first.ensures

pub returns-in-Nothing : goal.returns-in-Nothing
unfolding beside_of
returns-in-Nothing c = rw c.in-Nothing.is c.beside_end.ensures

pub returns-in-Wants : goal.returns-in-Wants
unfolding beside_of
returns-in-Wants c = rw c.in-Wants.is c.asked.ensures

pub returns-in-Long : goal.returns-in-Long
unfolding beside_of
returns-in-Long c = rw c.in-Long.is c.asked-in-Long.ensures
