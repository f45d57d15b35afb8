-- `words::all_below` meets its contract: word by word.
use Rattle.std.proofs.Common.{inl, inr, ◌∙◌, arith}
use Rattle.answers.proofs.Cases.{cases}
use Rattle.words.specs.Words.{all_below}
use Rattle.words.proofs.all_below.Goals as goal
use Rattle.words.proofs.all_below.Goals.{then-first-limit, else-first-limit}

pub returns-then-second-limit : goal.returns-then-second-limit
unfolding all_below
returns-then-second-limit c = elim c.if-first-limit.branch [ then-first-limit w ↦ search cases | else-first-limit w ↦ search cases ]

pub returns-else-second-limit : goal.returns-else-second-limit
unfolding all_below
returns-else-second-limit c = elim c.if-first-limit.branch [ then-first-limit w ↦ elim c.if-second-limit.either [ inl p ↦ w.t-6-is ∙ search cases | inr p ↦ absurd (omega (arith, p, w.if-first-limit.true)) ] | else-first-limit w ↦ search cases ]
