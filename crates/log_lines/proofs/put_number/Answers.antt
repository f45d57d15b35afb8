-- `log_lines::put_number` meets its contract: the number after the words.
use Rattle.log_lines.proofs.Laws.{then}
use Rattle.log_lines.proofs.put_number.Goals as goal

pub returns : goal.returns
returns c = then c.put-next.ensures c.put_decimal.ensures
