-- `floats::bits::float64` meets its contract: by the size of the pattern.
use lib.Ieee.{binary64, of_bits}
use Rattle.floats.proofs.Readback.{above_reads, below_reads}
use Rattle.floats.proofs.bits.float64.Goals as goal

pub returns-then-pattern-gt-INFINITE : goal.returns-then-pattern-gt-INFINITE
unfolding of_bits
returns-then-pattern-gt-INFINITE c = above_reads binary64 _ c.if-pattern-gt-INFINITE.true

pub float_from_bits-result : goal.float_from_bits-result
float_from_bits-result c = below_reads binary64 _ c.if-pattern-gt-INFINITE.false
