-- `log_passes::beside::beside_first` meets its contract.
use mathlib.Core.Path.{sym, subst}
use lib.Seq.{length-take-le}
use Rattle.log_passes.specs.Taking.{Inside}
use Rattle.log_passes.specs.Beside.{beside_first}
use Rattle.log_passes.proofs.beside.beside_first.Goals as goal

pub slice_bounds-beside_texts-end : goal.slice_bounds-beside_texts-end
slice_bounds-beside_texts-end c = sym (length-take-le _ _ (subst (Inside _) c.in-Text.is c.requires))

pub returns-in-Text : goal.returns-in-Text
unfolding beside_first
returns-in-Text c = rw c.in-Text.is c.beside_texts.ensures

pub returns-in-Nothing : goal.returns-in-Nothing
unfolding beside_first
returns-in-Nothing c = rw c.in-Nothing.is c.asked.ensures

pub returns-in-Wants : goal.returns-in-Wants
unfolding beside_first
returns-in-Wants c = rw c.in-Wants.is c.asked-in-Wants.ensures

pub returns-in-Long : goal.returns-in-Long
unfolding beside_first
returns-in-Long c = rw c.in-Long.is c.asked-in-Long.ensures
