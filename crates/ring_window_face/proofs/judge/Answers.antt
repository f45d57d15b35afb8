-- `ring_window_face::judge` meets its contract.
use Rattle.face.specs.Face.{judged}
use Rattle.answers.proofs.Cases.{cases}
use Rattle.ring_window_face.proofs.judge.Goals as goal

pub returns-then-state-ne-WORDS : goal.returns-then-state-ne-WORDS
unfolding judged
returns-then-state-ne-WORDS c = search cases

pub returns : goal.returns
unfolding judged
returns c = search (cases, ← c.setting_first.ensures)
