-- `may_go` meets its contract: where the stage is that of an event, the state is judged.
use mathlib.Core.Path.{sym, ◌∙◌}
use mathlib.Core.Bool.{false≢true}
use Rattle.std.proofs.Common.{arith}
use Rattle.answers.proofs.Cases.{cases}
use Rattle.replay_runs.proofs.start.may_go.Goals as goal
use Rattle.replay_runs.proofs.start.may_go.Goals.{then-samples-ne0+in-Events, then-samples-ne0+in_default, else-samples-ne0}

pub returns-then-matches : goal.returns-then-matches
returns-then-matches c =
    λ z.
    let j = c.judged.ensures z in
    elim c.if-samples-ne0.branch [
      | then-samples-ne0+in-Events w ↦ record { starts = record { stage = w.in-Events.is; judged = j.2; unfilled = j.3 }; envelope = j.0; levels = j.1 }
      | then-samples-ne0+in_default w ↦ absurd (false≢true (sym w.value-is ∙ c.if-matches.true))
      | else-samples-ne0 w ↦ grind (arith, cases)
    ]

pub returns-else-matches : goal.returns-else-matches
returns-else-matches c = λ z. absurd (false≢true (sym c.if-matches.false ∙ z))
