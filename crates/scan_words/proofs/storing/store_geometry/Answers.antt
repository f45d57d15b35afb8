-- `scan_words::storing::store_geometry` meets its contract.
use Rattle.scan_words.specs.Layout.{stored_geometry}
use borrow.Author.Rules.{rules}
use Rattle.scan_words.proofs.storing.store_geometry.Goals as goal

pub bounds-state-4 : goal.bounds-state-4
bounds-state-4 c = search rules depth 12

pub bounds-state-5 : goal.bounds-state-5
bounds-state-5 c = search rules depth 12

pub bounds-state-6 : goal.bounds-state-6
bounds-state-6 c = search rules depth 12

pub bounds-state-7 : goal.bounds-state-7
bounds-state-7 c = search rules depth 12

pub returns : goal.returns
unfolding stored_geometry
returns c = cc
