-- `fine_words::peak_flag` meets its contract.
use mathlib.Core.Path.{◌≡◌, refl, ap, ◌∙◌}
use Rattle.std.specs.Prelude.{Option, None, Some, is_some}
use Rattle.answers.specs.Pick.{pick}
use Rattle.fine.specs.declared.Positions.{Positions}
use Rattle.words.specs.Words.{flag_of}
use Rattle.fine_words.specs.Layout.{peak_flag}
use Rattle.fine_words.proofs.peak_flag.Goals as goal

flag_is : (k : Option Positions) → flag_of (is_some k) ≡ peak_flag k
unfolding pick
flag_is None = refl
flag_is (Some k) = refl

pub returns : goal.returns
returns c = c.flag.ensures ∙ (ap flag_of c.is_some.ensures ∙ flag_is c.args.peak_at)
