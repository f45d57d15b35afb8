-- Partings and splits on both sides of each line, by computation; and the statements are about something: zero buffers of the right lengths are a start.
use Prim.Native.Nat.{ℕ, ◌+◌, ◌*◌}
use mathlib.Core.Path.{◌≡◌, refl}
use mathlib.Core.List.{[]}
use mathlib.Core.Bool.{Bool, true, false}
use borrow.Author.Tests.{eq-eqb}
use Rattle.answers.specs.Pick.{pick}
use Rattle.floats.specs.Functions.{zero64}
use Rattle.scan.specs.Bins.{full_slack, geometry_of, envelope_len, near_len, window_len, prefix_len, lags}
use Rattle.scan.specs.State.{World, new_verdict}
use Rattle.scan.specs.Scoring.{uncovered}
use Rattle.scan.specs.Calls.{all_lengths}
use Rattle.scan.specs.Streams.{Lengths, zero_buffers}
use Rattle.scan.specs.declared.Geometry.{Geometry}
use Rattle.scan.proofs.Laws.{both_and, length_zeros}
use Rattle.scan_panel.specs.Panel.{panel_slack, panel_table}
use Rattle.scan_panel_agrees.specs.Agreement.{parting, splitting, Start}

-- ---- rate 8,000, ceiling 8: frame 256, span 8, envelopes of 4,264 and 776 bins

-- so many far blocks written, and a full frame that starts at this bin
abbrev pub scene : ℕ → ℕ → World
scene next first =
    record {
      scan = record { geometry = geometry_of 8000 8; far = record { next = next; sum = zero64; count = 0; accepted = 0 }; near = record { len = 256; sum = zero64; count = 0; first = first; last = first * 8 + 2047 }; verdict = new_verdict };
      buffers = record { envelope = []; levels = []; window = []; prefix = []; squares = []; scores = []; lag_sums = [] };
    }

-- a parting, a split
abbrev pub Row : ℕ → ℕ → Bool → Bool → Type 0
Row next first parts splits = (parting full_slack panel_slack (scene next first) ≡ parts) × (splitting full_slack panel_slack (scene next first) ≡ splits)

-- 10,000 blocks: the profile keeps bins from 9,224 on, the full scan from 5,736 on
pub rows :
    -- the window starts at the profile's oldest bin, and one before it
    Row 10000 9232 false false × Row 10000 9231 true true
    -- at the full scan's oldest bin, and one before it: both are uncovered, and the window still holds bins that the full scan kept
    × Row 10000 5744 true true × Row 10000 5743 true false
    -- the window ends at the full scan's oldest bin, and one before it
    × Row 10000 5481 true false × Row 10000 5480 false false
    -- 1,000 blocks: the profile has overwritten bins to 223. The frame starts at bin span, and one before it: both are uncovered there.
    × Row 1000 8 true true × Row 1000 7 true false
    -- 776 blocks: nothing is overwritten
    × Row 776 8 false false
unfolding parting splitting uncovered geometry_of pick
rows = ((refl, refl), (refl, refl), (refl, refl), (refl, refl), (refl, refl), (refl, refl), (refl, refl), (refl, refl), (refl, refl))

-- ---- a start

abbrev pub lengths_for : Geometry → Lengths
lengths_for g = record { levels = near_len g; window = window_len g; prefix = prefix_len g; squares = prefix_len g; scores = lags g }

zeros_right : (slack : ℕ) (g : Geometry) → all_lengths slack g (zero_buffers slack g (lengths_for g)) ≡ true
zeros_right slack g =
    both_and _ _ (eq-eqb _ _ (length_zeros (envelope_len slack g)))
    (both_and _ _ (eq-eqb _ _ (length_zeros (near_len g)))
    (both_and _ _ (eq-eqb _ _ (length_zeros (window_len g)))
    (both_and _ _ (eq-eqb _ _ (length_zeros (prefix_len g)))
    (both_and _ _ (eq-eqb _ _ (length_zeros (prefix_len g))) (both_and _ _ (eq-eqb _ _ (length_zeros (lags g))) (eq-eqb _ _ (length_zeros (lags g))))))))

pub start_of_zeros : (rate ceiling : ℕ) → panel_table rate ceiling ≡ true
    → Start rate ceiling (zero_buffers full_slack (geometry_of rate ceiling) (lengths_for (geometry_of rate ceiling))) (zero_buffers panel_slack (geometry_of rate ceiling) (lengths_for (geometry_of rate ceiling)))
start_of_zeros rate ceiling t = record { allowed = t; wide = zeros_right full_slack (geometry_of rate ceiling); narrow = zeros_right panel_slack (geometry_of rate ceiling) }
