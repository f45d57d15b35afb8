-- `scan_calls::rules::verdict_rule` meets its contract: each rule in its order.
use Rattle.answers.proofs.Cases.{cases}
use Rattle.scan.specs.State.{verdict_rule}
use Rattle.scan_calls.proofs.rules.verdict_rule.Goals as goal

pub returns-then-not-finished : goal.returns-then-not-finished
unfolding verdict_rule
returns-then-not-finished c = search (cases, ← c.finished.ensures)

pub returns-else-not-finished : goal.returns-else-not-finished
unfolding verdict_rule
returns-else-not-finished c = search (cases, ← c.finished.ensures, ← c.idle.ensures)

pub returns-else-v-lt-COARSE_MIN_FRAMES : goal.returns-else-v-lt-COARSE_MIN_FRAMES
unfolding verdict_rule
returns-else-v-lt-COARSE_MIN_FRAMES c = search cases
