-- `scan_calls::rules::first_refusals` meets its contract: the refusals in their order.
use mathlib.Core.Path.{refl, sym, ◌∙◌}
use borrow.Author.Tests.{not-false}
use Rattle.scan.specs.State.{first_refusals}
use Rattle.scan_calls.proofs.Chains.{refuses, passes}
use Rattle.scan_calls.proofs.rules.first_refusals.Goals as goal

pub returns-then-not-in_table : goal.returns-then-not-in_table
unfolding first_refusals
returns-then-not-in_table c = refuses c.in_table.ensures 1 _ c.if-not-in_table.true-raw

pub returns-then-not-lengths : goal.returns-then-not-lengths
unfolding first_refusals
returns-then-not-lengths c = passes c.in_table.ensures 1 c.if-not-in_table.false-raw (refuses refl 2 _ c.if-not-lengths.true-raw)

pub keeps_rules-requires : goal.keeps_rules-requires
keeps_rules-requires c =
    (c.requires, sym c.in_table.ensures ∙ not-false _ c.if-not-in_table.false-raw)

pub returns-then-not-keeps_rules : goal.returns-then-not-keeps_rules
unfolding first_refusals
returns-then-not-keeps_rules c =
    passes c.in_table.ensures 1 c.if-not-in_table.false-raw (passes refl 2 c.if-not-lengths.false-raw (refuses c.keeps_rules.ensures 3 _ c.if-not-keeps_rules.true-raw))

pub returns : goal.returns
unfolding first_refusals
returns c =
    passes c.in_table.ensures 1 c.if-not-in_table.false-raw (passes refl 2 c.if-not-lengths.false-raw (passes c.keeps_rules.ensures 3 c.if-not-keeps_rules.false-raw refl))
