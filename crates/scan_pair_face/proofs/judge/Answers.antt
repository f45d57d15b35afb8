-- `scan_pair_face::judge` meets its contract.
use mathlib.Core.Path.{◌∙◌}
use Rattle.answers.proofs.Cases.{cases}
use Rattle.face.specs.Face.{judged}
use Rattle.scan_pair_face.proofs.Order.{judged_by}
use Rattle.scan_pair_face.proofs.judge.Goals as goal

pub returns-then-state-ne-WORDS : goal.returns-then-state-ne-WORDS
unfolding judged
returns-then-state-ne-WORDS c = search cases

pub returns : goal.returns
returns c = cc (c.setting_first.ensures, c.in_table.ensures, c.half.ensures, c.half-2.ensures) ∙ judged_by c.args.state.now c.args.values_fit c.if-state-ne-WORDS.false c.words_of-own.ensures.words
