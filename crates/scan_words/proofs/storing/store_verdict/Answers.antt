-- `scan_words::storing::store_verdict` meets its contract.
use Rattle.scan_words.specs.Layout.{stored_verdict}
use mathlib.Core.Path.{ap, ◌∙◌}
use lib.ListN.{length, length-set}
use Rattle.scan_words.proofs.Lengths.{found_keeps_length}
use borrow.Author.Rules.{rules}
use Rattle.scan_words.proofs.storing.store_verdict.Goals as goal

pub bounds-state-23 : goal.bounds-state-23
bounds-state-23 c = search rules depth 12

pub shape_of-state : goal.shape_of-state
shape_of-state c = ap length c.store_found.ensures ∙ found_keeps_length _ _ ∙ simp length-set

pub returns : goal.returns
unfolding stored_verdict
returns c = cc
