-- `scan_pair_face::judge_on` meets its contract.
use mathlib.Core.Path.{sym, ◌∙◌}
use borrow.Author.Tests.{lt-ltb}
use Rattle.answers.specs.Pick.{pick_true}
use Rattle.answers.proofs.Cases.{cases}
use Rattle.scan_pair_face.specs.Calls.{judged_on}
use Rattle.scan_pair_face.proofs.judge_on.Goals as goal

pub returns-then-channel-ge2 : goal.returns-then-channel-ge2
unfolding judged_on
returns-then-channel-ge2 c = search cases

pub returns : goal.returns
unfolding judged_on
returns c = c.judge.ensures ∙ sym (pick_true _ _ _ (lt-ltb _ _ c.if-channel-ge2.false))
