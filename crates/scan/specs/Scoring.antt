-- SPECIFICATION 7: steps 1 to 8, in its order.
use Rattle.std.specs.Prelude.{ℕ, zero, suc, ◌+◌, ◌-◌, ◌*◌, ◌/◌, ◌%◌, List, Bool, true, false, not, leb, ltb, length, Float}
use Rattle.std.specs.Float.{binary64}
use Rattle.std.specs.Float.Ieee.{of_bits, add, sub, mul, div, lt, le}
use Rattle.answers.specs.Pick.{pick, both, either}
use Rattle.answers.specs.Numbers.{apart, next_count}
use Rattle.units.specs.Units.{bins, in_samples}
use Rattle.units.specs.declared.Bins.{Bins}
use Rattle.floats.specs.Functions.{zero64, whole, narrow, root}
use Rattle.folds.specs.Sums.{upto, table, zeros, at, square, sum_of, prefix_sums, prefix_squares}
use Rattle.folds.specs.Search.{search_down}
use Rattle.scan.specs.Bins.{coarse_min_frames, window_len, envelope_len, lags}
use Rattle.scan.specs.State.{present}
use Rattle.scan.specs.declared.Geometry.{Geometry}
use Rattle.scan.specs.declared.Found.{Found}
use Rattle.scan.specs.declared.Found.TheVariants.{At}
use Rattle.scan.specs.declared.Verdict.{Verdict}
use Rattle.scan.specs.declared.Frame.{Frame}
use Rattle.scan.specs.declared.Frame.TheVariants as frame

-- ---- the f64 literals, by their bits

-- 3.1622777e-4, the mean level that the far window must pass (COARSE_FAR_ACTIVE_FLOOR): silence says nothing of a delay
abbrev pub active_floor : Float
active_floor = of_bits binary64 0x3f34b96bee24033f

-- 1e-12 (COARSE_VARIANCE_FLOOR): a guard against dividing by nothing, so that a flat stretch scores exactly 0. It is no gate on the level.
abbrev pub energy_floor : Float
energy_floor = of_bits binary64 0x3d719799812dea11

-- 0.25, which the averaged peak must reach (COARSE_CONFIDENT_CORR)
abbrev pub confident_correlation : Float
confident_correlation = of_bits binary64 0x3fd0000000000000

-- 0.25, by which the sum of four frames is multiplied to make their average
abbrev pub one_fourth : Float
one_fourth = of_bits binary64 0x3fd0000000000000

-- 1.5, how far the peak must stand above the best rival (COARSE_SIDELOBE_RATIO)
abbrev pub sidelobe_ratio : Float
sidelobe_ratio = of_bits binary64 0x3ff8000000000000

-- counted frames without a region after which the scan gives up (COARSE_GIVE_UP_FRAMES), so that a stream whose delay cannot be found costs no more
abbrev pub give_up_frames : ℕ
give_up_frames = 64

-- at most this part of the frame may still be unwritten at the window's end (COARSE_TAIL_DEFICIT_DEN)
abbrev pub tail_deficit_part : ℕ
tail_deficit_part = 4

-- ---- the frame starts at bin s; its window is bins s - span to s + frame - 1. `next` is the next far block: bins below it are written.

-- 1. uncovered: s < span, or the window starts before the oldest bin kept
unfoldable pub uncovered : ℕ → Geometry → ℕ → ℕ → Bool
uncovered slack g next s = either (ltb s g.span) (ltb (s - g.span) (next - envelope_len slack g))

-- 2. ahead: more than frame / 4 of the window's last bins are not yet written
unfoldable pub ahead : Geometry → ℕ → ℕ → Bool
ahead g next s = ltb (g.frame / tail_deficit_part) (s + g.frame - next)

-- bin j, which stands at j modulo the envelope length; unwritten bins read as 0
abbrev pub bin_at : ℕ → Geometry → ℕ → List Float → ℕ → Float
bin_at slack g next envelope j = pick (ltb j next) (at envelope (j % envelope_len slack g)) zero64

unfoldable pub window_of : ℕ → Geometry → ℕ → ℕ → List Float → List Float
window_of slack g next s envelope = table (λ i. bin_at slack g next envelope (s - g.span + i)) (window_len g)

-- ---- 3. quiet: window mean at most 3.1622777e-4

unfoldable pub mean_of : List Float → Float
mean_of xs = div binary64 (sum_of xs) (whole (length xs))

unfoldable pub quiet : List Float → Bool
quiet window = le (mean_of window) active_floor

-- ---- 4. flat: sum of squares of near bins less their mean is at most 1e-12

abbrev pub centred : List Float → ℕ → Float
centred levels i = sub binary64 (at levels i) (mean_of levels)

unfoldable pub near_energy : List Float → Float
near_energy levels = upto (λ i. square (centred levels i)) (length levels)

unfoldable pub flat : List Float → Bool
flat levels = le (near_energy levels) energy_floor

-- ---- 5. otherwise the frame counts: per lag k a score

-- the difference of two prefix values, over the frame's bins from lag k on
abbrev pub across : List Float → ℕ → ℕ → Float
across prefix frame k = sub binary64 (at prefix (k + frame)) (at prefix k)

-- the difference of prefix squares less the square of the difference of prefix sums over frame
unfoldable pub segment_energy : List Float → ℕ → ℕ → Float
segment_energy window frame k =
    sub binary64 (across (prefix_squares window) frame k)
    (div binary64 (square (across (prefix_sums window) frame k)) (whole frame))

-- the sum of centred near times window
unfoldable pub lag_product : List Float → List Float → ℕ → Float
lag_product levels window k = upto (λ i. mul binary64 (centred levels i) (at window (k + i))) (length levels)

-- at or below 1e-12 the score is 0, else that sum divided by the root of near energy times segment energy
unfoldable pub score_at : List Float → List Float → ℕ → Float
score_at levels window k =
    let energy = segment_energy window (length levels) k in
    pick (le energy energy_floor) zero64
    (div binary64 (lag_product levels window k) (root binary64 (mul binary64 (near_energy levels) energy)))

unfoldable pub scores_of : Geometry → List Float → List Float → List Float
scores_of g levels window = table (score_at levels window) (lags g)

-- ---- request h: the work of a frame that counts

-- lag k's sum is formed: its segment energy is above 1e-12
unfoldable pub live : List Float → ℕ → ℕ → Bool
live window frame k = not (le (segment_energy window frame k) energy_floor)

-- how many of the first n lags are
unfoldable pub live_lags : List Float → ℕ → ℕ → ℕ
live_lags window frame zero = 0
live_lags window frame (suc n) = live_lags window frame n + pick (live window frame n) 1 0

-- the products formed in the lag sums: as many as the frame has bins, for each such lag
unfoldable pub products : Geometry → List Float → List Float → ℕ
products g levels window = g.frame * live_lags window (length levels) (lags g)

-- no frame takes more
abbrev pub most_products : Geometry → ℕ
most_products g = (g.span + 1) * g.frame

-- ---- the peak and the sums

-- the frame's peak is the largest score above 0, else 0
abbrev pub peak_of : List Float → Float
peak_of scores = (search_down scores).value

-- scores are added to the lag sums
unfoldable pub add_scores : Geometry → List Float → List Float → List Float
add_scores g lag_sums scores = table (λ k. add binary64 (at lag_sums k) (at scores k)) (lags g)

-- ---- 7. on the fourth

-- sums are multiplied by 0.25
unfoldable pub averages_of : Geometry → List Float → List Float
averages_of g lag_sums = table (λ k. mul binary64 (at lag_sums k) one_fourth) (lags g)

-- delay in bins is span - k
abbrev pub delay_at : Geometry → ℕ → Bins
delay_at g k = bins (g.span - k)

-- bins + ceiling guard > span
unfoldable pub at_ceiling : Geometry → Bins → Bool
at_ceiling g b = ltb g.span (b.0 + g.ceiling_guard)

-- the best average farther than the peak guard from k, if it is above 0, else 0: among the first n lags
abbrev pub rival_with : Geometry → ℕ → Float → ℕ → Float → Float
rival_with g k best n x = pick (leb (apart n k) g.peak_guard) best (pick (lt best x) x best)

unfoldable pub rival_upto : Geometry → List Float → ℕ → ℕ → Float
rival_upto g averages k zero = zero64
rival_upto g averages k (suc n) = rival_with g k (rival_upto g averages k n) n (at averages n)

abbrev pub rival_of : Geometry → List Float → ℕ → Float
rival_of g averages k = rival_upto g averages k (lags g)

-- that is above 0 and the peak is below 1.5 times it
unfoldable pub crowded_by : Float → Float → Bool
crowded_by rival peak = both (lt zero64 rival) (lt peak (mul binary64 sidelobe_ratio rival))

-- the averages searched from span down with strict >. Then in order: weak, ceiling, crowded, region.
unfoldable pub decision : Geometry → List Float → Frame
decision g averages =
    let peak = search_down averages in
    pick (lt peak.value confident_correlation) frame.Weak
    (pick (at_ceiling g (delay_at g peak.place)) frame.Ceiling
    (pick (crowded_by (rival_of g averages peak.place) peak.value) frame.Crowded
    (frame.Region (record { delay = in_samples g.decimation (delay_at g peak.place); correlation = peak.value }))))

-- a region is found
abbrev pub found_by : Frame → Found → Found
found_by frame.Uncovered f = f
found_by frame.Ahead f = f
found_by frame.Quiet f = f
found_by frame.Flat f = f
found_by (frame.Banked p) f = f
found_by frame.Weak f = f
found_by frame.Ceiling f = f
found_by frame.Crowded f = f
found_by (frame.Region r) f = At r

-- ceiling sets the flag, a region clears it; weak and crowded leave it
abbrev pub beyond_by : Frame → Bool → Bool
beyond_by frame.Uncovered b = b
beyond_by frame.Ahead b = b
beyond_by frame.Quiet b = b
beyond_by frame.Flat b = b
beyond_by (frame.Banked p) b = b
beyond_by frame.Weak b = b
beyond_by frame.Ceiling b = true
beyond_by frame.Crowded b = b
beyond_by (frame.Region r) b = false

-- ---- 8. 64 or more frames now count without a region: the scan is exhausted
abbrev pub exhausted_by : ℕ → Found → Bool → Bool
exhausted_by frames found before = either before (both (leb give_up_frames frames) (not (present found)))

-- ---- 5 to 8 together

-- the verdict after a frame that counts, with this peak and answer, and so many frames then banked
abbrev pub verdict_by : Verdict → Float → Frame → ℕ → Verdict
verdict_by v peak a banked =
    record {
      banked = banked;
      frames = next_count v.frames;
      last = narrow peak;
      found = found_by a v.found;
      beyond = beyond_by a v.beyond;
      exhausted = exhausted_by (next_count v.frames) (found_by a v.found) v.exhausted;
    }

-- the answer, the verdict and the lag sums after it
pub record Ruling : Type 0 where
  pub answer : Frame
  pub verdict : Verdict
  pub lag_sums : List Float

-- 6. with fewer than 4 frames summed: banked, with the peak as f32. 7. on the fourth: the decision, and sums return to 0. `lag_sums` has this frame's scores already.
unfoldable pub ruling : Geometry → Verdict → Float → List Float → Ruling
ruling g v peak lag_sums =
    let fourth = decision g (averages_of g lag_sums) in
    pick (ltb (v.banked + 1) coarse_min_frames)
    (record { answer = frame.Banked (narrow peak); verdict = verdict_by v peak (frame.Banked (narrow peak)) (v.banked + 1); lag_sums = lag_sums })
    (record { answer = fourth; verdict = verdict_by v peak fourth 0; lag_sums = zeros (lags g) })
