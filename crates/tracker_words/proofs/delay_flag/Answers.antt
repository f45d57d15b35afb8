-- `tracker_words::delay_flag` meets its contract.
use mathlib.Core.Path.{◌≡◌, refl, ap, ◌∙◌}
use Rattle.std.specs.Prelude.{Option, None, Some, is_some}
use Rattle.answers.specs.Pick.{pick}
use Rattle.units.specs.declared.Samples.{Samples}
use Rattle.words.specs.Words.{flag_of}
use Rattle.tracker_words.specs.Layout.{delay_flag}
use Rattle.tracker_words.proofs.delay_flag.Goals as goal

flag_is : (d : Option Samples) → flag_of (is_some d) ≡ delay_flag d
unfolding pick
flag_is None = refl
flag_is (Some d) = refl

pub returns : goal.returns
returns c = c.flag.ensures ∙ (ap flag_of c.is_some.ensures ∙ flag_is c.args.delay)
