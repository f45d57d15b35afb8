-- The answers that say nothing of a state: that a change was made, a count, a flag. A refusal of `none` is no refusal.
use Rattle.std.specs.Prelude.{ℕ, Bool}
use Rattle.answers.specs.Refusals.{if_refused}
use Rattle.answers.specs.declared.Change.{Change}
use Rattle.answers.specs.declared.Change.TheVariants as change
use Rattle.answers.specs.declared.Count.{Count}
use Rattle.answers.specs.declared.Count.TheVariants as count
use Rattle.answers.specs.declared.Flag.{Flag}
use Rattle.answers.specs.declared.Flag.TheVariants as flag

unfoldable pub changing : ℕ → Change
changing refusal = if_refused refusal (change.Refused refusal) change.Done

unfoldable pub counted : ℕ → ℕ → Count
counted refusal n = if_refused refusal (count.Refused refusal) (count.Is n)

unfoldable pub flagged : ℕ → Bool → Flag
flagged refusal is = if_refused refusal (flag.Refused refusal) (flag.Is is)
