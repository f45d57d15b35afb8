-- `log_text::cut` meets its contract: the tests of the code are those of `cut_at`.
use Rattle.answers.proofs.Cases.{cases}
use Rattle.log_text.specs.Cut.{cut_at, cut_of}
use Rattle.log_text.proofs.cut.Goals as goal

pub returns-then-n-gt75 : goal.returns-then-n-gt75
unfolding cut_of cut_at
returns-then-n-gt75 c = search (cases, ← c.first_newline-n.ensures)

pub returns-then-n-bytes : goal.returns-then-n-bytes
unfolding cut_of cut_at
returns-then-n-bytes c = search (cases, ← c.first_newline-n.ensures)

pub returns-then-not-ended : goal.returns-then-not-ended
unfolding cut_of cut_at
returns-then-not-ended c = search (cases, ← c.first_newline-n.ensures)

pub returns-then-n-eq0 : goal.returns-then-n-eq0
unfolding cut_of cut_at
returns-then-n-eq0 c = search (cases, ← c.first_newline-n.ensures)

pub returns : goal.returns
unfolding cut_of cut_at
returns c = search (cases, ← c.first_newline-n.ensures)
