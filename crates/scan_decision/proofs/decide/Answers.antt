-- `scan_decision::decide` meets its contract: by its tests, in their order.
use lib.Ieee.{of_bits}
use Rattle.answers.proofs.Cases.{cases}
use Rattle.scan.specs.Scoring.{decision}
use Rattle.scan_decision.proofs.Fourth.{fits}
use native.Mathlib.Omega.{arith}
use Rattle.scan_decision.proofs.decide.Goals as goal

pub returns-then-peak : goal.returns-then-peak
unfolding decision of_bits
returns-then-peak c = search (cases, ← c.search_down-peak.ensures)

pub at_ceiling-beyond-requires : goal.at_ceiling-beyond-requires
at_ceiling-beyond-requires c = omega (arith, c.requires.0.guarded, c.saturating_sub.ensures)

pub returns-then-beyond : goal.returns-then-beyond
unfolding decision of_bits
returns-then-beyond c = search (cases, ← c.at_ceiling-beyond.ensures, ← c.saturating_sub.ensures, ← c.search_down-peak.ensures)

pub returns-then-rivalled : goal.returns-then-rivalled
unfolding decision of_bits
returns-then-rivalled c =
    search (cases, ← c.crowded-rivalled.ensures, ← c.rival.ensures, ← c.at_ceiling-beyond.ensures, ← c.saturating_sub.ensures, ← c.search_down-peak.ensures)

pub in_samples-requires : goal.in_samples-requires
in_samples-requires c =
    fits _ c.args.g.span _ _ (omega (arith, c.saturating_sub.ensures)) c.requires.0.native

pub returns : goal.returns
unfolding decision of_bits
returns c =
    search (cases, ← c.in_samples.ensures, ← c.crowded-rivalled.ensures, ← c.rival.ensures, ← c.at_ceiling-beyond.ensures, ← c.saturating_sub.ensures, ← c.search_down-peak.ensures)
