-- `log_report::put_side` meets its contract.
use Rattle.log_report.specs.Texts.{side_words}
use Rattle.log_report.proofs.put_side.Goals as goal

pub returns-in-None : goal.returns-in-None
unfolding side_words
returns-in-None c = rw c.in-None.is c.put.ensures

pub returns-in-Some : goal.returns-in-Some
unfolding side_words
returns-in-Some c = rw c.in-Some.is c.put_line_at.ensures
