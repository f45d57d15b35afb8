-- `scan_calls::rules::near_rule` meets its contract: each rule in its order.
use Rattle.answers.specs.Pick.{pick}
use Rattle.answers.proofs.Cases.{cases}
use Rattle.std.proofs.Common.{arith}
use Rattle.scan.specs.State.{near_rule}
use Rattle.scan_calls.proofs.rules.near_rule.Goals as goal

pub returns-then-starts_below_limit : goal.returns-then-starts_below_limit
unfolding near_rule
returns-then-starts_below_limit c = grind (arith, cases)

pub returns-else-starts_below_limit : goal.returns-else-starts_below_limit
unfolding near_rule pick
returns-else-starts_below_limit c = grind (arith, cases)
