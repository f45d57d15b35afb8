-- `recording_shorts::number` meets its contract: only the number that was guessed can have the pattern.
use borrow.Author.Rules.{rules}
use mathlib.Core.Path.{sym, ap, ◌∙◌}
use Rattle.recording_shorts.specs.Shorts.{quotient_bits}
use Rattle.recording_shorts.specs.Steps.{Guessed}
use Rattle.recording_shorts.proofs.Finding.{found, not_found}
use Rattle.recording_shorts.proofs.number.Goals as goal

pub returns-then-quotient_bits-bits : goal.returns-then-quotient_bits-bits
returns-then-quotient_bits-bits c = sym (found c.guess-n.result c.args.bits (search rules) (sym c.quotient_bits.ensures ∙ c.if-quotient_bits-bits.true))

pub returns : goal.returns
unfolding Guessed
returns c = sym (not_found c.args.bits λ n h e. c.if-quotient_bits-bits.false (c.quotient_bits.ensures ∙ ap quotient_bits (c.guess-n.ensures n h e) ∙ e))
