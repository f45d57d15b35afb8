-- `log_report::put_section` meets its contract.
use Rattle.log_lines.proofs.Laws.{then}
use Rattle.log_report.proofs.Lengths.{put_nothing}
use Rattle.log_report.specs.Texts.{section_text}
use Rattle.log_report.proofs.put_section.Goals as goal

pub returns-in-None : goal.returns-in-None
unfolding section_text
returns-in-None c = rw c.in-None.is (put_nothing _ _)

pub returns-in-Some : goal.returns-in-Some
unfolding section_text
returns-in-Some c = rw c.in-Some.is (then c.put-next.ensures c.put_pair.ensures)
