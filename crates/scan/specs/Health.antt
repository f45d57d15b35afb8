-- A stream's own state is never broken: from a making, or an accepted reset, on.
use Rattle.std.specs.Prelude.{ℕ, ◌≡◌, List, true}
use Rattle.std.specs.Float.Ieee.Scale.{finite}
use Rattle.answers.specs.Refusals.{outside_table, broken_state, not_finite}
use Rattle.folds.specs.Sums.{all_finite}
use Rattle.scan.specs.State.{World, keeps_rules}
use Rattle.scan.specs.Calls.{frame_of}
use Rattle.scan.specs.Steps.{Call, deed, score, rearm, refusal_of, called}
use Rattle.scan.specs.Streams.{Item, after, Accepted, Fair, Began}

-- the state rules hold, and every running sum, every far level, every near level of the frame under way and every lag sum is finite
pub record Healthy (w : World) : Type 0 where
  pub rules : keeps_rules w.scan ≡ true
  pub far_sum : finite w.scan.far.sum ≡ true
  pub near_sum : finite w.scan.near.sum ≡ true
  pub far_levels : all_finite w.buffers.envelope ≡ true
  pub near_levels : all_finite (frame_of w) ≡ true
  pub lag_sums : all_finite w.buffers.lag_sums ≡ true

abbrev pub StaysHealthy : Type 0
StaysHealthy = (slack rate ceiling : ℕ) (w : World) (items : List Item) → Began slack rate ceiling w → Fair slack w items → Healthy (after slack w items)

-- no call is refused with 1 or 3
abbrev pub NeverBroken : Type 0
NeverBroken =
    (slack rate ceiling : ℕ) (w : World) (items : List Item) → Began slack rate ceiling w → Fair slack w items
    → (c : Call) → (refusal_of (called slack (after slack w items) c).response ≡ outside_table → ⊥) × (refusal_of (called slack (after slack w items) c).response ≡ broken_state → ⊥)

-- and no frame with 4: what it would read is finite
abbrev pub NeverUnreadable : Type 0
NeverUnreadable =
    (slack rate ceiling : ℕ) (w : World) (items : List Item) → Began slack rate ceiling w → Fair slack w items
    → refusal_of (called slack (after slack w items) (deed score)).response ≡ not_finite → ⊥

-- so the rearm of demand 3 is never refused
abbrev pub RearmsAlways : Type 0
RearmsAlways = (slack rate ceiling : ℕ) (w : World) (items : List Item) → Began slack rate ceiling w → Fair slack w items → Accepted slack (after slack w items) (deed rearm)
