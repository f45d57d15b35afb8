-- SPECIFICATION 9, 3 and 4: what follows from the span, a new state, the state rules, and refusals 1, 2 and 3.
use Rattle.std.specs.Prelude.{ℕ, zero, suc, ◌+◌, ◌-◌, ◌*◌, ◌^◌, ◌≤◌, ◌<◌, min, max, ◌≡◌, Bool, false, leb, ltb, eqb, None}
use Rattle.answers.specs.Pick.{pick, both}
use Rattle.answers.specs.Refusals.{require, none, outside_table, wrong_length, broken_state}
use Rattle.answers.specs.Numbers.{limit, allowed_span}
use Rattle.units.specs.Units.{samples}
use Rattle.floats.specs.Functions.{zero64}
use Rattle.fine.specs.declared.Lengths.{Lengths}
use Rattle.fine.specs.declared.Frames.{Frames}
use Rattle.fine.specs.declared.Positions.{Positions}
use Rattle.fine.specs.declared.Scans.{Scans}
use Rattle.fine.specs.declared.Fine.{Fine}

-- ---- what follows from the span

-- Doubles p until it is not below n, at most `times` times.
unfoldable pub doubled_to : ℕ → ℕ → ℕ → ℕ
doubled_to zero n p = p
doubled_to (suc times) n p = pick (ltb p n) (doubled_to times n (p * 2)) p

-- Gives the least power of two not below n. Twice the largest span is 2^16.
abbrev pub least_power : ℕ → ℕ
least_power n = doubled_to 16 n 1

-- Says that p is that power: p is a power of two, n is at most p, and p is at most any other power of two that n is at most.
pub record LeastPower (n p : ℕ) : Type 0 where
  pub exponent : ℕ
  pub power : p ≡ 2 ^ exponent
  pub reaches : n ≤ p
  pub least : (j : ℕ) → n ≤ 2 ^ j → p ≤ 2 ^ j

-- The shortest and the longest transform (MIN_FFT_LEN, MAX_FFT_LEN). Even a short search then correlates over enough signal to mean something.
abbrev pub min_transform : ℕ
min_transform = 256

abbrev pub max_transform : ℕ
max_transform = 65536

-- The transform length is the least power of two not below twice the span, kept within 256 and 65,536.
unfoldable pub transform_of : ℕ → ℕ
transform_of span = min (max (least_power (2 * span)) min_transform) max_transform

-- The frame is the transform length less the span.
abbrev pub frame_of : ℕ → ℕ
frame_of span = transform_of span - span

-- The far window is frame + span.
abbrev pub window_of : ℕ → ℕ
window_of span = frame_of span + span

unfoldable pub lengths_of : ℕ → Lengths
lengths_of span = record { span = span; transform = transform_of span; frame = frame_of span }

-- ---- the first and the last position of a scan's peak

abbrev pub positions : ℕ → ℕ → Positions
positions first last = record { first = first; last = last }

-- ---- a new state

abbrev pub new_frames : Frames
new_frames = record { len = 0; retained = false; taken = 0; skipped = 0 }

abbrev pub new_scans : Scans
new_scans = record { count = 0; ratio = zero64; peak_at = None; origin = samples 0 }

-- Makes a state with these lengths that searches from delay 0 on.
unfoldable pub new_with : Lengths → Fine
new_with lengths = record { lengths = lengths; origin = samples 0; frames = new_frames; scans = new_scans }

abbrev pub with_frames : Fine → Frames → Fine
with_frames s f = record { lengths = s.lengths; origin = s.origin; frames = f; scans = s.scans }

-- ---- the state rules (3)

abbrev pub span_of : Fine → ℕ
span_of s = s.lengths.span

-- Tells whether a full frame waits.
abbrev pub full : Fine → Bool
full s = eqb s.frames.len s.lengths.frame

-- Tells whether both transform lengths and both frames are the same.
unfoldable pub same_lengths : Lengths → Lengths → Bool
same_lengths a b = both (eqb a.transform b.transform) (eqb a.frame b.frame)

-- A fine state's lengths follow from its span, its origin is below 2^62 and its near length is at most the frame.
unfoldable pub keeps_rules : Fine → Bool
keeps_rules s =
    both (same_lengths s.lengths (lengths_of (span_of s)))
    (both (ltb s.origin.0 limit)
    (leb s.frames.len s.lengths.frame))

-- The state's span is allowed, and the state keeps the rules.
pub record Sound (s : Fine) : Type 0 where
  pub least : 1 ≤ span_of s
  pub most : span_of s ≤ 32768
  pub transform : s.lengths.transform ≡ transform_of (span_of s)
  pub frame : s.lengths.frame ≡ frame_of (span_of s)
  pub origin : s.origin.0 < limit
  pub near : s.frames.len ≤ s.lengths.frame

-- ---- refusals 1, 2 and 3. `fitting` says whether each buffer that a call is lent has the length that the span gives.

unfoldable pub first_refusals : Fine → Bool → ℕ
first_refusals s fitting =
    require (allowed_span (span_of s)) outside_table
    (require fitting wrong_length
    (require (keeps_rules s) broken_state
    none))
