-- `scan_score::window::bin_at` meets its contract: by its test.
use lib.Ieee.{of_bits}
use Rattle.answers.proofs.Cases.{cases}
use Rattle.scan_score.proofs.window.bin_at.Goals as goal

pub returns-then-j-next : goal.returns-then-j-next
returns-then-j-next c = search cases

pub returns-else-j-next : goal.returns-else-j-next
unfolding of_bits
returns-else-j-next c = search cases
