-- A tracker whose numbers fit their types, and what is proved of it: `load_after_store` in proofs/.
use Rattle.std.specs.Prelude.{ℕ, ◌^◌, ◌<◌, ◌≡◌, List}
use Rattle.tracker.specs.declared.Tracker.{Tracker}
use Rattle.tracker_words.specs.Layout.{loaded, stored}

-- A number of 64 bits needs no condition: a word holds it.
pub record Fits (t : Tracker) : Type 0 where
  pub rate : t.rate < 2 ^ 32
  pub edges : t.edges < 2 ^ 32
  pub jumps : t.jumps < 2 ^ 32
  pub unconfident : t.unconfident < 2 ^ 32
  pub largest : t.largest < 2 ^ 32

-- What was stored loads again, whatever the words were before.
abbrev pub LoadsAfterStore : Type 0
LoadsAfterStore = (ws : List ℕ) (t : Tracker) → Fits t → loaded (stored ws t) ≡ t
