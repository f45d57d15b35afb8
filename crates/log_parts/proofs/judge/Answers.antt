-- `log_parts::judge` meets its contract: what the reader answers is `line_in` of the text.
use Rattle.log_parts.specs.Judged.{judged_text}
use Rattle.log_parts.proofs.Judging.{read_is}
use Rattle.log_parts.proofs.judge.Goals as goal

pub returns-in_err-line : goal.returns-in_err-line
unfolding judged_text
returns-in_err-line c = rw (read_is _ _ c.read_line.ensures, c.in_err-line.was) c.from_residual.ensures

pub returns : goal.returns
unfolding judged_text
returns c = rw (read_is _ _ c.read_line.ensures, c.in_ok-line.was) c.judge_line.ensures
