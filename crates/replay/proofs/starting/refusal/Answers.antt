-- `starting::refusal` meets its contract.
use mathlib.Core.Path.{refl}
use Rattle.answers.proofs.Cases.{cases}
use Rattle.scan_calls.proofs.Chains.{refuses, passes}
use Rattle.replay.specs.Beginning.{start_refusal}
use Rattle.replay.proofs.starting.refusal.Goals as goal

pub returns-then-not-in_table : goal.returns-then-not-in_table
unfolding start_refusal
returns-then-not-in_table c = search (cases, ← c.in_table.ensures)

pub returns-then-not-all_lengths : goal.returns-then-not-all_lengths
unfolding start_refusal
returns-then-not-all_lengths c = passes c.in_table.ensures 1 c.if-not-in_table.false-raw (rw (← c.geometry_of-g.ensures.is) (refuses c.all_lengths.ensures 2 0 c.if-not-all_lengths.true-raw))

pub returns : goal.returns
unfolding start_refusal
returns c = passes c.in_table.ensures 1 c.if-not-in_table.false-raw (rw (← c.geometry_of-g.ensures.is) (passes c.all_lengths.ensures 2 c.if-not-all_lengths.false-raw refl))
