-- `scan_calls::rules::far_rule` meets its contract: each rule in its order, the first two at once.
use Rattle.scan.specs.State.{far_rule}
use Rattle.answers.specs.Pick.{pick}
use Rattle.answers.proofs.Cases.{cases}
use Rattle.std.proofs.Common.{arith}
use Rattle.scan_calls.proofs.Passing.{as_chain}
use Rattle.scan_calls.proofs.rules.far_rule.Goals as goal

pub returns-then-is_finite : goal.returns-then-is_finite
unfolding far_rule pick
returns-then-is_finite c = grind (arith, cases, as_chain)

pub returns-else-is_finite : goal.returns-else-is_finite
unfolding far_rule
returns-else-is_finite c = grind (arith, cases, as_chain)
