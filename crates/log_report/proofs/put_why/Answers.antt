-- `log_report::put_why` meets its contract.
use Rattle.log_parts.proofs.Judging.{read_is}
use Rattle.log_report.proofs.Lengths.{put_nothing}
use Rattle.log_report.specs.Texts.{why_text}
use Rattle.log_report.proofs.put_why.Goals as goal

pub returns-in-Some : goal.returns-in-Some
unfolding why_text
returns-in-Some c = rw (read_is _ _ c.read_line.ensures, c.in-Some.is) c.put.ensures

pub returns-in-None : goal.returns-in-None
unfolding why_text
returns-in-None c = rw (read_is _ _ c.read_line.ensures, c.in-None.is) (put_nothing _ _)
