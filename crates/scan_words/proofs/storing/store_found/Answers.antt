-- `scan_words::storing::store_found` meets its contract.
use Rattle.scan_words.specs.Layout.{stored_found}
use Rattle.scan_words.proofs.storing.store_found.Goals as goal

pub returns-in-Nothing : goal.returns-in-Nothing
unfolding stored_found
returns-in-Nothing c = cc

pub returns-in-At : goal.returns-in-At
unfolding stored_found
returns-in-At c = rw (c.in-At.is, c.pattern-correlation.ensures)
