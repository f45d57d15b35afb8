-- What an answer tells: the number of its case, and behind it the case's values. A refusal is case 0, and its value is the refusal number.
-- Each part of the house tells its own answers in this form, once; the C face and the log cite that.
use Rattle.std.specs.Prelude.{ℕ, List, [], ◌∷◌}
use Rattle.answers.specs.Pick.{pick}
use Rattle.answers.specs.declared.Change.{Change}
use Rattle.answers.specs.declared.Change.TheVariants as change
use Rattle.answers.specs.declared.Count.{Count}
use Rattle.answers.specs.declared.Count.TheVariants as count
use Rattle.answers.specs.declared.Flag.{Flag}
use Rattle.answers.specs.declared.Flag.TheVariants as flag

abbrev pub refused : ℕ → List ℕ
refused number = 0 ∷ number ∷ []

abbrev pub change_told : Change → List ℕ
change_told (change.Refused number) = refused number
change_told change.Done = 1 ∷ []

abbrev pub count_told : Count → List ℕ
count_told (count.Refused number) = refused number
count_told (count.Is n) = 1 ∷ n ∷ []

-- no, yes
abbrev pub flag_told : Flag → List ℕ
flag_told (flag.Refused number) = refused number
flag_told (flag.Is is) = pick is 2 1 ∷ []
