-- SPECIFICATION 11: a window of the ring in one call. It begins `back` samples before absolute index `at`: its place i is index at + i - back, and may lie before the stream's first sample.
use Rattle.std.specs.Prelude.{ℕ, zero, suc, ◌+◌, ◌-◌, List, [], ◌∷◌, ◌++◌, map, Bool, ltb, leb, length, get_or, Float}
use Rattle.std.specs.Float.{binary32}
use Rattle.std.specs.Float.Ieee.{of_bits, to_bits}
use Rattle.answers.specs.Pick.{pick}
use Rattle.answers.specs.Refusals.{if_refused}
use Rattle.ring.specs.declared.Ring.{Ring}
use Rattle.ring.specs.declared.Changed.{Changed}
use Rattle.ring.specs.declared.Kept.{Kept}
use Rattle.ring.specs.declared.Kept.TheVariants as kept
use Rattle.ring.specs.Ring.{ring_refusal, oldest, gotten, pushed, pushed_buf}
use Rattle.ring_window.specs.declared.Missing.{Missing}
use Rattle.ring_window.specs.declared.Reading.{Reading}
use Rattle.ring_window.specs.declared.Reading.TheVariants as reading

-- ---- one place

-- What the single read answers at its index. What lies before the stream's first sample is not kept.
abbrev pub read_at : Ring → ℕ → ℕ → ℕ → ℕ → Kept
read_at r capacity at back i = pick (ltb (at + i) back) kept.NotKept (gotten r capacity (at + i - back))

-- The pattern there, 0 if none is kept.
abbrev pub pattern_of : List ℕ → Kept → ℕ
pattern_of buf (kept.Refused number) = 0
pattern_of buf kept.NotKept = 0
pattern_of buf (kept.At place) = get_or buf place 0

-- It is missing at the head: it lies before the stream's first sample, or was overwritten.
abbrev pub at_head : Ring → ℕ → ℕ → ℕ → ℕ → Bool
at_head r capacity at back i = ltb (at + i) (back + oldest r capacity)

-- It is missing at the tail: it has not been pushed yet.
abbrev pub at_tail : Ring → ℕ → ℕ → ℕ → Bool
at_tail r at back i = leb (back + r.accepted) (at + i)

-- ---- all places

-- Lists f 0, .., f (n - 1).
unfoldable pub listed : (ℕ → ℕ) → ℕ → List ℕ
listed f zero = []
listed f (suc n) = listed f n ++ (f n ∷ [])

-- Counts the numbers below n of which f says yes.
unfoldable pub count_below : (ℕ → Bool) → ℕ → ℕ
count_below f zero = 0
count_below f (suc n) = count_below f n + pick (f n) 1 0

-- The patterns of a window of n places.
abbrev pub patterns : Ring → List ℕ → ℕ → ℕ → ℕ → List ℕ
patterns r buf at back n = listed (λ i. pattern_of buf (read_at r (length buf) at back i)) n

-- ---- the calls. The buffer and the window are lent. A refused call writes nothing.

abbrev pub missing_of : ℕ → ℕ → Missing
missing_of head tail = record { head = head; tail = tail }

unfoldable pub reading_of : Ring → ℕ → ℕ → ℕ → ℕ → Reading
reading_of r capacity at back n =
    if_refused (ring_refusal r capacity)
    (reading.Refused (ring_refusal r capacity))
    (reading.Read (missing_of (count_below (at_head r capacity at back) n) (count_below (at_tail r at back) n)))

unfoldable pub window_read : Ring → List ℕ → ℕ → ℕ → List ℕ → List ℕ
window_read r buf at back window = if_refused (ring_refusal r (length buf)) window (patterns r buf at back (length window))

-- The same window in floats: each pattern as its float, and every NaN's pattern as the one NaN.
unfoldable pub floats_read : Ring → List ℕ → ℕ → ℕ → List Float → List Float
floats_read r buf at back window = if_refused (ring_refusal r (length buf)) window (map (of_bits binary32) (patterns r buf at back (length window)))

-- A push of floats is a push of their patterns; the one NaN has the pattern 0x7FC00000.
abbrev pub floats_pushed : Ring → ℕ → List Float → Changed
floats_pushed r capacity xs = pushed r capacity (length xs)

unfoldable pub floats_pushed_buf : Ring → List ℕ → List Float → List ℕ
floats_pushed_buf r buf xs = pushed_buf r buf (map (to_bits binary32) xs)
