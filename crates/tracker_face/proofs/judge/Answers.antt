-- `tracker_face::judge` meets its contract.
use Rattle.answers.proofs.Cases.{cases}
use Rattle.tracker_words.specs.Layout.{loaded}
use Rattle.face.specs.Face.{judged}
use Rattle.tracker_face.proofs.judge.Goals as goal

pub returns-then-state-ne-WORDS : goal.returns-then-state-ne-WORDS
unfolding judged
returns-then-state-ne-WORDS c = search cases

pub returns : goal.returns
unfolding judged loaded
returns c = search (cases, ← c.setting_first.ensures, ← c.allowed_rate.ensures, ← c.half.ensures)
