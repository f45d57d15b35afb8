-- `scan_decision::at_ceiling` meets its contract.
use Rattle.scan.specs.Scoring.{at_ceiling}
use borrow.Author.Rules.{rules}
use Rattle.scan_decision.proofs.at_ceiling.Goals as goal

pub returns : goal.returns
unfolding at_ceiling
returns c = search rules
