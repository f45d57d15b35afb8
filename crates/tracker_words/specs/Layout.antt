-- Says where each field of a tracker is in the 15 words that a host lends. Every 15 words load: those that no tracker stores load as one that breaks
-- a rule, so that a call refuses them with 3 at its place among the refusals.
use Rattle.std.specs.Prelude.{ℕ, ◌^◌, Bool, List, [], ◌∷◌, ltb, eqb, Option, None, Some}
use Rattle.answers.specs.Pick.{pick, both}
use Rattle.answers.specs.Numbers.{limit}
use Rattle.units.specs.Units.{samples}
use Rattle.units.specs.declared.Samples.{Samples}
use Rattle.tracker.specs.declared.Bands.{Bands}
use Rattle.tracker.specs.declared.Tracker.{Tracker}
use Rattle.words.specs.Words.{word, half, all_below, flag_of}

-- A state has this many words.
abbrev pub tracker_words : ℕ
tracker_words = 15

-- ---- loading

unfoldable pub loaded_bands : List ℕ → Bands
loaded_bands ws = record { late = word ws 1; early = word ws 2; agree = word ws 3; apart = word ws 4; lead = word ws 5 }

unfoldable pub loaded_delay : ℕ → ℕ → Option Samples
loaded_delay flag delay = pick (eqb flag 0) None (Some (samples delay))

-- Each number encodes a case: three flags, three runs of 32 bits, and the largest of one of them.
unfoldable pub are_cases : List ℕ → Bool
are_cases ws =
    both (all_below 2 (word ws 6) (word ws 8) (word ws 13))
    (both (all_below (2 ^ 32) (word ws 10) (word ws 11) (word ws 12))
    (ltb (word ws 14) (2 ^ 32)))

-- A number that encodes no case loads as a pending delay of 2^62, which breaks a rule.
unfoldable pub loaded_pending : List ℕ → Option Samples
loaded_pending ws = pick (are_cases ws) (loaded_delay (word ws 6) (word ws 7)) (Some (samples limit))

-- A rate of 2^32 or more loads as 0, which is outside the table.
unfoldable pub loaded : List ℕ → Tracker
loaded ws =
    record {
      rate = half (word ws 0) 0;
      bands = loaded_bands ws;
      pending = loaded_pending ws;
      prev = loaded_delay (word ws 8) (word ws 9);
      edges = half (word ws 10) 0;
      jumps = half (word ws 11) 0;
      unconfident = half (word ws 12) 0;
      suspect = eqb (word ws 13) 1;
      largest = half (word ws 14) 0;
    }

-- ---- storing

abbrev pub delay_flag : Option Samples → ℕ
delay_flag None = 0
delay_flag (Some d) = 1

-- Without a delay, its word keeps what it held.
abbrev pub delay_word : ℕ → Option Samples → ℕ
delay_word old None = old
delay_word old (Some d) = d.0

-- Gives the words of a tracker, stored over ws.
unfoldable pub stored : List ℕ → Tracker → List ℕ
stored ws t =
    t.rate
    ∷ t.bands.late
    ∷ t.bands.early
    ∷ t.bands.agree
    ∷ t.bands.apart
    ∷ t.bands.lead
    ∷ delay_flag t.pending
    ∷ delay_word (word ws 7) t.pending
    ∷ delay_flag t.prev
    ∷ delay_word (word ws 9) t.prev
    ∷ t.edges
    ∷ t.jumps
    ∷ t.unconfident
    ∷ flag_of t.suspect
    ∷ t.largest
    ∷ []

-- Says what a call leaves in the words. Numbers below 16 are refusals, and a refused call leaves every word unchanged.
unfoldable pub settled : List ℕ → ℕ → Tracker → List ℕ
settled ws number t = pick (ltb number 16) ws (stored ws t)
