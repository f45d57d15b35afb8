-- `log_report::put_marked` meets its contract.
use Rattle.log_lines.proofs.Laws.{then}
use Rattle.log_report.specs.Texts.{marked_text}
use Rattle.log_report.proofs.put_marked.Goals as goal

pub returns : goal.returns
unfolding marked_text
returns c = then c.put-next.ensures c.put_side.ensures
