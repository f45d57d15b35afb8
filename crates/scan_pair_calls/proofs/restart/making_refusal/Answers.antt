-- `scan_pair_calls::restart::making_refusal` meets its contract.
use Rattle.answers.proofs.Cases.{cases}
use Rattle.scan_pair.specs.Calls.{pair_making_refusal}
use Rattle.scan_pair_calls.proofs.restart.making_refusal.Goals as goal

pub returns-then-not-in_table : goal.returns-then-not-in_table
unfolding pair_making_refusal
returns-then-not-in_table c = search (cases, ← c.in_table.ensures)

pub returns-then-not-lengths : goal.returns-then-not-lengths
unfolding pair_making_refusal
returns-then-not-lengths c = search (cases, ← c.in_table.ensures, ← c.geometry_of.ensures.is, ← c.lengths.ensures)

pub returns : goal.returns
unfolding pair_making_refusal
returns c = search (cases, ← c.in_table.ensures, ← c.geometry_of.ensures.is, ← c.lengths.ensures)
