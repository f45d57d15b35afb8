-- `recording_store::short_at` meets its contract.
use Rattle.std.specs.Prelude.{ℕ, Option}
use mathlib.Core.Path.{sym, ap, ◌∙◌}
use Rattle.recording_shorts.specs.Shorts.{short_of}
use Rattle.recording_convert.specs.Converting.{of_short}
use Rattle.recording_store.specs.Steps.{code_of}
use Rattle.recording_store.proofs.short_at.Goals as goal

pub returns-in-Some : goal.returns-in-Some
returns-in-Some c = ap (λ (o : Option ℕ). code_of (of_short o)) (sym c.in-Some.is ∙ c.number-short.ensures ∙ ap short_of c.u32_at.ensures)

pub returns-in-None : goal.returns-in-None
returns-in-None c = ap (λ (o : Option ℕ). code_of (of_short o)) (sym c.in-None.is ∙ c.number-short.ensures ∙ ap short_of c.u32_at.ensures)
