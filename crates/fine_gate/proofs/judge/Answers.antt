use Rattle.answers.proofs.Cases.{cases}
use Rattle.fine_gate.specs.Gate.{passage}
use Rattle.fine_gate.proofs.judge.Goals as goal

pub returns-then-skips : goal.returns-then-skips
unfolding passage
returns-then-skips c = search (cases, ← c.skips.ensures)

pub returns-then-silent : goal.returns-then-silent
unfolding passage
returns-then-silent c = search (cases, ← c.skips.ensures, ← c.silent.ensures)

pub returns : goal.returns
unfolding passage
returns c = search (cases, ← c.skips.ensures, ← c.silent.ensures)
