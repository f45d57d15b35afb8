-- `log_passes::passing::sought_text` meets its contract.
use Rattle.log_parts.proofs.Judging.{read_is}
use Rattle.log_passes.specs.Passing.{sought_read}
use Rattle.log_passes.proofs.passing.sought_text.Goals as goal

pub returns-in-Some : goal.returns-in-Some
unfolding sought_read
returns-in-Some c = rw (read_is _ _ c.read_line.ensures, c.in-Some.is) c.sought_line.ensures

pub returns-in-None : goal.returns-in-None
unfolding sought_read
returns-in-None c = rw (read_is _ _ c.read_line.ensures, c.in-None.is)
