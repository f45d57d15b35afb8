-- `scan_decision::crowded` meets its contract: by its tests.
use lib.Ieee.{of_bits}
use Rattle.answers.proofs.Cases.{cases}
use Rattle.scan.specs.Scoring.{crowded_by}
use Rattle.scan_decision.proofs.crowded.Goals as goal

pub returns-then-rival : goal.returns-then-rival
unfolding crowded_by of_bits
returns-then-rival c = search cases

pub returns-else-rival : goal.returns-else-rival
unfolding crowded_by of_bits
returns-else-rival c = search cases
