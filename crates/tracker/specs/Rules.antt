-- What the laws of the tracker speak of: the rules of its state, and what each trigger leaves changed.
use Rattle.std.specs.Prelude.{ℕ, ◌≤◌, ◌≡◌, true, false, None, Some}
use Rattle.answers.specs.Numbers.{allowed_rate, next_count}
use Rattle.answers.specs.Pick.{pick}
use Rattle.units.specs.declared.Samples.{Samples}
use Rattle.tracker.specs.declared.Outcome.{Outcome}
use Rattle.tracker.specs.declared.Outcome.TheVariants.{Candidate, Unconfident}
use Rattle.tracker.specs.declared.Trigger.{Trigger}
use Rattle.tracker.specs.declared.Trigger.TheVariants.{Edge, Lost, Jump, Seam}
use Rattle.tracker.specs.declared.Tracker.{Tracker}
use Rattle.tracker.specs.Tracker.{below_limit, bands_of, same_bands, evidence}
use Rattle.tracker.specs.Cycle.{outside_bands}

-- The rules of a tracker's state.
pub record Sound (t : Tracker) : Type 0 where
  pub rate : allowed_rate t.rate ≡ true
  pub bands : same_bands t.bands (bands_of t.rate) ≡ true
  pub pending : below_limit t.pending ≡ true
  pub prev : below_limit t.prev ≡ true
  pub largest : t.jumps ≤ t.largest

-- A move comes from an interior candidate, and never lands past it.
pub record Moves (outcome : Outcome) (to : ℕ) : Type 0 where
  pub delay : Samples
  pub interior : outcome ≡ Candidate delay true
  pub early : to ≤ delay.0

-- An unconfident cycle changed its run, and nothing else.
pub record Unsure (t : Tracker) (outcome : Outcome) (next : Tracker) : Type 0 where
  pub unconfident : outcome ≡ Unconfident
  pub leaves : next ≡ evidence t t.pending t.prev t.edges t.jumps (next_count t.unconfident) t.suspect

-- An edge candidate counted, and cleared what it cannot be compared with.
pub record Pinned (t : Tracker) (outcome : Outcome) (next : Tracker) : Type 0 where
  pub delay : Samples
  pub edge : outcome ≡ Candidate delay false
  pub leaves : next ≡ evidence t None None (next_count t.edges) t.jumps 0 t.suspect

-- A contradicting candidate counted and is now the previous one. Outside the bands it is also pending; inside them it lifts suspicion.
pub record Contradicted (t : Tracker) (alignment : Samples) (outcome : Outcome) (next : Tracker) : Type 0 where
  pub delay : Samples
  pub interior : outcome ≡ Candidate delay true
  pub leaves : next ≡ pick (outside_bands t alignment.0 delay.0)
      (evidence t (Some delay) (Some delay) 0 (next_count t.jumps) 0 t.suspect)
      (evidence t None (Some delay) 0 (next_count t.jumps) 0 false)

-- Says what a verdict to reacquire leaves, by its trigger. The verdict itself clears nothing.
abbrev pub Leaves : Trigger → Tracker → Samples → Outcome → Tracker → Type 0
Leaves Edge t alignment outcome next = Pinned t outcome next
Leaves Lost t alignment outcome next = (t.suspect ≡ false) × Unsure t outcome next
Leaves Jump t alignment outcome next = Contradicted t alignment outcome next
Leaves Seam t alignment outcome next = (t.suspect ≡ true) × Unsure t outcome next
