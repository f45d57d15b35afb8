-- SPECIFICATION 6, bins and buffers: what follows from the rate and the ceiling, and the lengths of the lent buffers.
use Rattle.std.specs.Prelude.{ℕ, ◌+◌, ◌*◌, ◌/◌, max, Bool, eqb}
use Rattle.answers.specs.Pick.{both}
use Rattle.answers.specs.Numbers.{allowed_rate, allowed_ceiling}
use Rattle.scan.specs.declared.Geometry.{Geometry}

-- "Numbers the card lives with"
unfoldable pub in_table : ℕ → ℕ → Bool
in_table rate ceiling = both (allowed_rate rate) (allowed_ceiling ceiling)

-- ---- divisions round down and each is at least 1

-- D = (rate + 500) / 1000
abbrev pub decimation_of : ℕ → ℕ
decimation_of rate = max 1 ((rate + 500) / 1000)

-- bin rate = rate / D
abbrev pub bin_rate_of : ℕ → ℕ
bin_rate_of rate = max 1 (rate / decimation_of rate)

-- ms x bin rate / 1000: so many ms in bins
abbrev pub ms_in_bins : ℕ → ℕ → ℕ
ms_in_bins rate ms = max 1 (ms * bin_rate_of rate / 1000)

-- frames averaged before a region is named (COARSE_MIN_FRAMES)
abbrev pub coarse_min_frames : ℕ
coarse_min_frames = 4

-- one coarse frame (COARSE_FRAME_MS)
abbrev pub coarse_frame_ms : ℕ
coarse_frame_ms = 256

-- A peak this close to the ceiling may be the slope of one beyond it, so it is no region but sets the flag (COARSE_CEILING_GUARD_MS).
abbrev pub ceiling_guard_ms : ℕ
ceiling_guard_ms = 8

-- Averages this close to the peak belong to it, and are no rivals of it (COARSE_PEAK_GUARD_MS).
abbrev pub peak_guard_ms : ℕ
peak_guard_ms = 30

unfoldable pub geometry_of : ℕ → ℕ → Geometry
geometry_of rate ceiling =
    record {
      rate = rate;
      ceiling = ceiling;
      decimation = decimation_of rate;
      bin_rate = bin_rate_of rate;
      span = ms_in_bins rate ceiling;
      frame = ms_in_bins rate coarse_frame_ms;
      ceiling_guard = ms_in_bins rate ceiling_guard_ms;
      peak_guard = ms_in_bins rate peak_guard_ms;
    }

-- decimation, bin rate, span, frame and guards of both are the same
unfoldable pub same_geometry : Geometry → Geometry → Bool
same_geometry g h =
    both (eqb g.decimation h.decimation)
    (both (eqb g.bin_rate h.bin_rate)
    (both (eqb g.span h.span)
    (both (eqb g.frame h.frame)
    (both (eqb g.ceiling_guard h.ceiling_guard)
    (eqb g.peak_guard h.peak_guard)))))

-- ---- the lent buffers

-- How many bins the far envelope keeps beyond the window (COARSE_RING_SLACK_BINS): as much as the host's own far ring keeps beyond its window, so that both histories expire together.
abbrev pub full_slack : ℕ
full_slack = 4000

-- far envelope
abbrev pub envelope_len : ℕ → Geometry → ℕ
envelope_len slack g = g.frame + g.span + slack

-- near envelope
abbrev pub near_len : Geometry → ℕ
near_len g = g.frame

abbrev pub window_len : Geometry → ℕ
window_len g = g.frame + g.span

-- two prefix buffers
abbrev pub prefix_len : Geometry → ℕ
prefix_len g = g.frame + g.span + 1

-- lag scores and lag sums: a lag k for each delay from 0 to span
abbrev pub lags : Geometry → ℕ
lags g = g.span + 1
