-- `log_says::put_there` meets its contract.
use Rattle.log_lines.proofs.Laws.{then}
use Rattle.log_says.specs.Says.{stands_text}
use Rattle.log_says.proofs.put_there.Goals as goal

pub returns : goal.returns
unfolding stands_text
returns c = then c.put-next.ensures c.put_shown.ensures
