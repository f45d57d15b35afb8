-- `fine_handover_face::judge` meets its contract.
use Rattle.face.specs.Face.{judged}
use Rattle.fine_words.specs.Layout.{loaded, loaded_lengths}
use Rattle.answers.proofs.Cases.{cases}
use Rattle.fine_handover_face.proofs.judge.Goals as goal

pub returns-then-state-ne-WORDS : goal.returns-then-state-ne-WORDS
unfolding judged
returns-then-state-ne-WORDS c = search cases

pub returns : goal.returns
unfolding judged loaded loaded_lengths
returns c = search (cases, ← c.setting_first.ensures, ← c.allowed_span.ensures, ← c.half.ensures)
