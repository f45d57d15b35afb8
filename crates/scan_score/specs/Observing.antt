-- The lent lists as one, with the state, and what the call gave back.
use Rattle.std.specs.Prelude.{ℕ, ◌+◌, ◌%◌, ◌<◌, ◌≡◌, List, Bool, ltb, length, Float}
use Rattle.answers.specs.Pick.{pick, both, either}
use Rattle.answers.specs.Numbers.{limit}
use Rattle.floats.specs.Functions.{zero64}
use Rattle.folds.specs.Sums.{table, at, all_finite}
use Rattle.scan.specs.Bins.{envelope_len, near_len, window_len, prefix_len, lags}
use Rattle.scan.specs.State.{Buffers, World}
use Rattle.scan.specs.Scoring.{uncovered, ahead, window_of}
use Rattle.scan.specs.Calls.{Observation, with_near_verdict, consumed}
use Rattle.scan.specs.declared.Geometry.{Geometry}
use Rattle.scan.specs.declared.Scan.{Scan}
use Rattle.scan.specs.declared.Verdict.{Verdict}
use Rattle.scan.specs.declared.Frame.{Frame}
use Rattle.scan.specs.declared.Scored.{Scored}
use Rattle.scan.specs.declared.Scoring.TheVariants as scoring
use Rattle.scan_calls.specs.Bounds.{Bounds}

abbrev pub lent : List Float → List Float → List Float → List Float → List Float → List Float → List Float → Buffers
lent envelope levels window prefix squares scores lag_sums =
    record { envelope = envelope; levels = levels; window = window; prefix = prefix; squares = squares; scores = scores; lag_sums = lag_sums }

abbrev pub world : Scan → Buffers → World
world s b = record { scan = s; buffers = b }

-- the state and the answer that came back, with the lists as they are then
abbrev pub saw : Scored → Buffers → Observation
saw r b = record { scored = r; buffers = b }

-- the near frame consumed, with this verdict, this answer and so many products
abbrev pub ended : Scan → Verdict → Frame → ℕ → Scored
ended s v a n = record { scan = with_near_verdict s (consumed s.near) v; answer = scoring.Frame a n }

-- ---- the window, read across the envelope's wrap

-- bin j, which stands at j modulo the envelope's length; unwritten bins read as 0
abbrev pub bin_in : List Float → ℕ → ℕ → Float
bin_in envelope next j = pick (ltb j next) (at envelope (j % length envelope)) zero64

-- n bins from `start` on
abbrev pub bins_from : List Float → ℕ → ℕ → ℕ → List Float
bins_from envelope next start n = table (λ i. bin_in envelope next (start + i)) n

-- ---- what is known where neither 1 nor 2 nor 3 is given

-- of the state and the envelope
pub record Sound (slack : ℕ) (s : Scan) (e : List Float) : Type 0 where
  pub bounds : Bounds s.geometry
  pub envelope : length e ≡ envelope_len slack s.geometry
  pub first : s.near.first < limit
  pub banked : s.verdict.banked < 4

-- of the other lists
pub record Fit (g : Geometry) (l w p q c t : List Float) : Type 0 where
  pub levels : length l ≡ near_len g
  pub window : length w ≡ window_len g
  pub prefix : length p ≡ prefix_len g
  pub squares : length q ≡ prefix_len g
  pub scores : length c ≡ lags g
  pub lag_sums : length t ≡ lags g

-- of all, where a full frame waits
pub record Ready (slack : ℕ) (s : Scan) (b : Buffers) : Type 0 where
  pub sound : Sound slack s b.envelope
  pub fit : Fit s.geometry b.levels b.window b.prefix b.squares b.scores b.lag_sums
  pub full : s.near.len ≡ s.geometry.frame

-- ---- 4: nothing is read, or all that is read is finite. All of the near levels are the frame's.

unfoldable pub may_read : ℕ → Scan → List Float → List Float → List Float → Bool
may_read slack s envelope levels lag_sums =
    either (uncovered slack s.geometry s.far.next s.near.first)
    (either (ahead s.geometry s.far.next s.near.first)
    (both (all_finite levels)
    (both (all_finite (window_of slack s.geometry s.far.next s.near.first envelope))
    (all_finite lag_sums))))
