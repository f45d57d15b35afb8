-- Where each field of a scan stands in the 25 words that a host lends: geometry 0 to 7, far 8 to 11, near 12 to 15 and 24, verdict 16 to 23.
-- A float is its pattern, a flag 0 or 1. Any 25 words load: those that no state stores load as a state that breaks the rule they break,
-- so that a call refuses them with the number that is due, in its place among the refusals.
use Rattle.std.specs.Prelude.{ℕ, ◌^◌, Bool, List, ltb, eqb, set}
use Rattle.std.specs.Float.{binary32, binary64}
use Rattle.std.specs.Float.Ieee.{of_bits}
use Rattle.answers.specs.Pick.{pick, both}
use Rattle.words.specs.Words.{word, half, all_below, pattern_of, flag_of}
use Rattle.units.specs.Units.{samples}
use Rattle.scan.specs.declared.Geometry.{Geometry}
use Rattle.scan.specs.declared.Far.{Far}
use Rattle.scan.specs.declared.Near.{Near}
use Rattle.scan.specs.declared.Found.{Found}
use Rattle.scan.specs.declared.Found.TheVariants.{Nothing, At}
use Rattle.scan.specs.declared.Verdict.{Verdict}
use Rattle.scan.specs.declared.Scan.{Scan}

-- how many words a state has
abbrev pub scan_words : ℕ
scan_words = 25

-- ---- loading

-- a rate or a ceiling of 2^32 or more is outside the table, as 0 is
unfoldable pub loaded_geometry : List ℕ → Geometry
loaded_geometry ws =
    record {
      rate = half (word ws 0) 0;
      ceiling = half (word ws 1) 0;
      decimation = word ws 2;
      bin_rate = word ws 3;
      span = word ws 4;
      frame = word ws 5;
      ceiling_guard = word ws 6;
      peak_guard = word ws 7;
    }

unfoldable pub loaded_far : List ℕ → Far
loaded_far ws = record { next = word ws 8; sum = of_bits binary64 (word ws 9); count = word ws 10; accepted = word ws 11 }

unfoldable pub loaded_near : List ℕ → Near
loaded_near ws = record { len = word ws 12; sum = of_bits binary64 (word ws 13); count = word ws 14; first = word ws 15; last = word ws 24 }

unfoldable pub loaded_found : List ℕ → Found
loaded_found ws = pick (eqb (word ws 19) 0) Nothing (At (record { delay = samples (word ws 20); correlation = of_bits binary64 (word ws 21) }))

-- each number of the verdict is a case: three of 32 bits, three flags
unfoldable pub are_cases : List ℕ → Bool
are_cases ws = both (all_below (2 ^ 32) (word ws 16) (word ws 17) (word ws 18)) (all_below 2 (word ws 19) (word ws 22) (word ws 23))

-- four frames banked break a state rule, as a number that is no case does
unfoldable pub loaded_banked : List ℕ → ℕ
loaded_banked ws = pick (are_cases ws) (half (word ws 16) 4) 4

unfoldable pub loaded_verdict : List ℕ → Verdict
loaded_verdict ws =
    record {
      banked = loaded_banked ws;
      frames = half (word ws 17) 0;
      last = of_bits binary32 (half (word ws 18) 0);
      found = loaded_found ws;
      beyond = eqb (word ws 22) 1;
      exhausted = eqb (word ws 23) 1;
    }

unfoldable pub loaded : List ℕ → Scan
loaded ws = record { geometry = loaded_geometry ws; far = loaded_far ws; near = loaded_near ws; verdict = loaded_verdict ws }

-- ---- storing. A NaN leaves a NaN's pattern that stands there.

unfoldable pub stored_geometry : List ℕ → Geometry → List ℕ
stored_geometry ws g =
    set (set (set (set (set (set (set (set ws 0 g.rate) 1 g.ceiling) 2 g.decimation) 3 g.bin_rate) 4 g.span) 5 g.frame) 6 g.ceiling_guard) 7 g.peak_guard

unfoldable pub stored_far : List ℕ → Far → List ℕ
stored_far ws f = set (set (set (set ws 8 f.next) 9 (pattern_of binary64 (word ws 9) f.sum)) 10 f.count) 11 f.accepted

unfoldable pub stored_near : List ℕ → Near → List ℕ
stored_near ws n = set (set (set (set (set ws 12 n.len) 13 (pattern_of binary64 (word ws 13) n.sum)) 14 n.count) 15 n.first) 24 n.last

-- without a region the region's words are left
unfoldable pub stored_found : List ℕ → Found → List ℕ
stored_found ws Nothing = set ws 19 0
stored_found ws (At r) = set (set (set ws 19 1) 20 r.delay.0) 21 (pattern_of binary64 (word ws 21) r.correlation)

unfoldable pub stored_verdict : List ℕ → Verdict → List ℕ
stored_verdict ws v =
    stored_found
    (set (set (set (set (set ws 16 v.banked) 17 v.frames) 18 (pattern_of binary32 (half (word ws 18) 0) v.last)) 22 (flag_of v.beyond)) 23 (flag_of v.exhausted))
    v.found

unfoldable pub stored : List ℕ → Scan → List ℕ
stored ws s = stored_verdict (stored_near (stored_far (stored_geometry ws s.geometry) s.far) s.near) s.verdict

-- numbers below 16 are refusals
unfoldable pub settled : List ℕ → ℕ → Scan → List ℕ
settled ws n s = pick (ltb n 16) ws (stored ws s)
