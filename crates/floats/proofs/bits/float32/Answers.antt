-- `floats::bits::float32` meets its contract: by the size of the pattern.
use lib.Ieee.{binary32, of_bits}
use Rattle.floats.proofs.Readback.{above_reads, below_reads}
use Rattle.floats.proofs.bits.float32.Goals as goal

pub returns-then-pattern-gt-INFINITE_32 : goal.returns-then-pattern-gt-INFINITE_32
unfolding of_bits
returns-then-pattern-gt-INFINITE_32 c = above_reads binary32 _ c.if-pattern-gt-INFINITE_32.true

pub float_from_bits-result : goal.float_from_bits-result
float_from_bits-result c = below_reads binary32 _ c.if-pattern-gt-INFINITE_32.false
