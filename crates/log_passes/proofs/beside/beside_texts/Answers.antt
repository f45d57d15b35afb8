-- `log_passes::beside::beside_texts` meets its contract.
use Rattle.answers.proofs.Cases.{cases}
use Rattle.log_passes.specs.Beside.{beside_texts}
use Rattle.log_passes.proofs.beside.beside_texts.Goals as goal

pub returns-then-same_text : goal.returns-then-same_text
unfolding beside_texts
returns-then-same_text c = search (cases, ← c.same_text.ensures, ← c.saturating_add.ensures)

pub returns : goal.returns
unfolding beside_texts
returns c = search (cases, ← c.same_text.ensures)
