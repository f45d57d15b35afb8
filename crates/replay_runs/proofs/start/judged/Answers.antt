-- `judged` meets its contract: test by test.
use mathlib.Core.Path.{sym, ap, ◌∙◌}
use mathlib.Core.Bool.{false≢true}
use borrow.Author.Tests.{not-true}
use Rattle.std.proofs.Common.{arith}
use Rattle.answers.proofs.Cases.{cases}
use Rattle.std.proofs.lemmas.Bool.{eqb-true}
use Rattle.scan.specs.Bins.{full_slack, envelope_len}
use Rattle.scan.specs.declared.Geometry.{Geometry}
use Rattle.replay_runs.proofs.start.judged.Goals as goal
use Rattle.replay_runs.proofs.start.judged.Goals.{then-levels-due, else-levels-due}

pub returns-then-first_refusals-eq0 : goal.returns-then-first_refusals-eq0
returns-then-first_refusals-eq0 c =
    λ z.
    let g = c.geometry_of-due.ensures.is in
    elim c.if-levels-due.branch [
      | then-levels-due w ↦
          let lengths = w.if-levels-due.true in
          (lengths.0 ∙ c.envelope_len.ensures ∙ ap (envelope_len full_slack) g, lengths.1 ∙ ap (λ (x : Geometry). x.frame) g, sym w.first_refusals.ensures ∙ eqb-true _ _ (sym w.value-is ∙ c.if-first_refusals-eq0.true), not-true _ z)
      | else-levels-due w ↦ grind (arith, cases)
    ]

pub returns-else-first_refusals-eq0 : goal.returns-else-first_refusals-eq0
returns-else-first_refusals-eq0 c = λ z. absurd (false≢true (sym c.if-first_refusals-eq0.false ∙ z))
