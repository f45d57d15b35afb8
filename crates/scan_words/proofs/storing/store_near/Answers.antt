-- `scan_words::storing::store_near` meets its contract.
use Rattle.scan_words.specs.Layout.{stored_near}
use borrow.Author.Rules.{rules}
use Rattle.scan_words.proofs.storing.store_near.Goals as goal

pub bounds-state-24 : goal.bounds-state-24
bounds-state-24 c = search rules depth 12

pub returns : goal.returns
unfolding stored_near
returns c = cc
