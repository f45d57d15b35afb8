-- `log_passes::beside::beside_next` meets its contract.
use Rattle.log_passes.specs.Beside.{beside_in}
use Rattle.log_passes.proofs.beside.beside_next.Goals as goal

pub beside_of-requires : goal.beside_of-requires
beside_of-requires c = (c.line_of-mine.ensures.1, c.line_of-other.ensures.1)

pub returns : goal.returns
unfolding beside_in
returns c = rw (← c.line_of-mine.ensures.0, ← c.line_of-other.ensures.0) c.beside_of.ensures
