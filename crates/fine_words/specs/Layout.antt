-- Says where each field of a fine state is in the 14 words that a host lends. Every 14 words load: those that no state stores load as one that breaks
-- a rule, so that a call refuses them with 3 at its place among the refusals.
use Rattle.std.specs.Prelude.{ℕ, ◌^◌, Bool, List, [], ◌∷◌, ltb, eqb, Option, None, Some}
use Rattle.std.specs.Float.{binary64}
use Rattle.std.specs.Float.Ieee.{of_bits}
use Rattle.answers.specs.Pick.{pick, both}
use Rattle.answers.specs.Numbers.{limit}
use Rattle.units.specs.Units.{samples}
use Rattle.units.specs.declared.Samples.{Samples}
use Rattle.fine.specs.State.{positions}
use Rattle.fine.specs.declared.Positions.{Positions}
use Rattle.fine.specs.declared.Lengths.{Lengths}
use Rattle.fine.specs.declared.Frames.{Frames}
use Rattle.fine.specs.declared.Scans.{Scans}
use Rattle.fine.specs.declared.Fine.{Fine}
use Rattle.words.specs.Words.{word, half, pattern_of, flag_of}

-- A state has this many words.
abbrev pub fine_words : ℕ
fine_words = 14

-- ---- loading

-- A span of 2^32 or more loads as 0, which is outside the table.
unfoldable pub loaded_lengths : List ℕ → Lengths
loaded_lengths ws = record { span = half (word ws 0) 0; transform = word ws 1; frame = word ws 2 }

-- Each number encodes a case: two flags and two counts of 32 bits.
unfoldable pub are_cases : List ℕ → Bool
are_cases ws =
    both (ltb (word ws 5) 2)
    (both (ltb (word ws 6) (2 ^ 32))
    (both (ltb (word ws 7) (2 ^ 32))
    (ltb (word ws 10) 2)))

-- A number that encodes no case loads as an origin of 2^62, which breaks a rule.
unfoldable pub loaded_origin : List ℕ → Samples
loaded_origin ws = pick (are_cases ws) (samples (word ws 3)) (samples limit)

unfoldable pub loaded_frames : List ℕ → Frames
loaded_frames ws = record { len = word ws 4; retained = eqb (word ws 5) 1; taken = half (word ws 6) 0; skipped = half (word ws 7) 0 }

unfoldable pub loaded_peak_at : List ℕ → Option Positions
loaded_peak_at ws = pick (eqb (word ws 10) 0) None (Some (positions (word ws 11) (word ws 13)))

unfoldable pub loaded_scans : List ℕ → Scans
loaded_scans ws = record { count = word ws 8; ratio = of_bits binary64 (word ws 9); peak_at = loaded_peak_at ws; origin = samples (word ws 12) }

unfoldable pub loaded : List ℕ → Fine
loaded ws = record { lengths = loaded_lengths ws; origin = loaded_origin ws; frames = loaded_frames ws; scans = loaded_scans ws }

-- ---- storing

abbrev pub peak_flag : Option Positions → ℕ
peak_flag None = 0
peak_flag (Some p) = 1

-- Without a position, its words keep what they held.
abbrev pub first_word : ℕ → Option Positions → ℕ
first_word old None = old
first_word old (Some p) = p.first

abbrev pub last_word : ℕ → Option Positions → ℕ
last_word old None = old
last_word old (Some p) = p.last

-- Gives the words of a fine state, stored over ws.
unfoldable pub stored : List ℕ → Fine → List ℕ
stored ws s =
    s.lengths.span
    ∷ s.lengths.transform
    ∷ s.lengths.frame
    ∷ s.origin.0
    ∷ s.frames.len
    ∷ flag_of s.frames.retained
    ∷ s.frames.taken
    ∷ s.frames.skipped
    ∷ s.scans.count
    ∷ pattern_of binary64 (word ws 9) s.scans.ratio
    ∷ peak_flag s.scans.peak_at
    ∷ first_word (word ws 11) s.scans.peak_at
    ∷ s.scans.origin.0
    ∷ last_word (word ws 13) s.scans.peak_at
    ∷ []

-- Says what a call leaves in the words. Numbers below 16 are refusals, and a refused call leaves every word unchanged.
unfoldable pub settled : List ℕ → ℕ → Fine → List ℕ
settled ws number s = pick (ltb number 16) ws (stored ws s)
