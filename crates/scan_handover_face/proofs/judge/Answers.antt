-- `scan_handover_face::judge` meets its contract.
use Rattle.face.specs.Face.{judged}
use Rattle.scan_words.specs.Layout.{loaded, loaded_geometry}
use Rattle.answers.proofs.Cases.{cases}
use Rattle.scan_handover_face.proofs.judge.Goals as goal

pub returns-then-state-ne-WORDS : goal.returns-then-state-ne-WORDS
unfolding judged
returns-then-state-ne-WORDS c = search cases

pub returns : goal.returns
unfolding judged loaded loaded_geometry
returns c = search (cases, ← c.setting_first.ensures, ← c.in_table.ensures, ← c.half.ensures, ← c.half-2.ensures)
