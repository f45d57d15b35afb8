-- What the frames report counts, what a banked peak is, and when a scan is exhausted: of any calls, by the definitions that the contracts cite.
use Rattle.std.specs.Prelude.{ℕ, ◌≡◌, List, [], ◌∷◌, Bool, true, false, eqb, Float}
use Rattle.answers.specs.Pick.{pick}
use Rattle.answers.specs.Refusals.{none}
use Rattle.answers.specs.Numbers.{next_count}
use Rattle.floats.specs.Functions.{narrow}
use Rattle.scan.specs.State.{Buffers, World}
use Rattle.scan.specs.Scoring.{peak_of, exhausted_by}
use Rattle.scan.specs.Calls.{observed}
use Rattle.scan.specs.Steps.{near, score, rearm, discard, reset, ask, Call, far, deed, Response, changes, takes, scores, reports_region, reports_flag, reports_count, reports_level, reports_samples, refusal_of, called, making}
use Rattle.scan.specs.Streams.{Item, own, foreign, after}
use Rattle.scan.specs.declared.Frame.{Frame}
use Rattle.scan.specs.declared.Frame.TheVariants as frame
use Rattle.scan.specs.declared.Scoring.{Scoring}
use Rattle.scan.specs.declared.Scoring.TheVariants as scoring

-- the frame passed to step 5
abbrev pub is_counted : Frame → Bool
is_counted frame.Uncovered = false
is_counted frame.Ahead = false
is_counted frame.Quiet = false
is_counted frame.Flat = false
is_counted (frame.Banked p) = true
is_counted frame.Weak = true
is_counted frame.Ceiling = true
is_counted frame.Crowded = true
is_counted (frame.Region r) = true

abbrev pub scored_one : Scoring → Bool
scored_one (scoring.Refused n) = false
scored_one (scoring.Frame f n) = is_counted f

-- the answer of a call is such a frame
abbrev pub counted_one : Response → Bool
counted_one (changes a) = false
counted_one (takes a) = false
counted_one (scores a) = scored_one a
counted_one (reports_region a) = false
counted_one (reports_flag a) = false
counted_one (reports_count a) = false
counted_one (reports_level a) = false
counted_one (reports_samples a) = false

-- ---- the count since the making, the rearm or the reset

-- one call with this answer: a rearm and a reset that are not refused begin again, a frame that passed to step 5 adds one. A count stays at its largest value when reached.
abbrev pub tallied : Call → Response → ℕ → ℕ
tallied (far xs) a n = n
tallied (deed (near x index)) a n = n
tallied (deed score) a n = pick (counted_one a) (next_count n) n
tallied (deed rearm) a n = pick (eqb (refusal_of a) none) 0 n
tallied (deed discard) a n = n
tallied (deed reset) a n = pick (eqb (refusal_of a) none) 0 n
tallied (deed (ask r)) a n = n

unfoldable pub tally : ℕ → World → List Item → ℕ → ℕ
tally slack w [] n = n
tally slack w (own c ∷ items) n = tally slack (called slack w c).world items (tallied c (called slack w c).response n)
tally slack w (foreign v c ∷ items) n = tally slack w items n

-- the frames report of a stream from a making on
abbrev pub CountsFrames : Type 0
CountsFrames =
    (slack rate ceiling : ℕ) (lent : Buffers) (items : List Item)
    → (after slack (making slack rate ceiling lent).world items).scan.verdict.frames ≡ tally slack (making slack rate ceiling lent).world items 0

-- ---- one frame

-- a banked answer carries the peak of the scores as f32
abbrev pub FrameCarries : Frame → Float → Type 0
FrameCarries frame.Uncovered x = Unit {0}
FrameCarries frame.Ahead x = Unit {0}
FrameCarries frame.Quiet x = Unit {0}
FrameCarries frame.Flat x = Unit {0}
FrameCarries (frame.Banked p) x = p ≡ x
FrameCarries frame.Weak x = Unit {0}
FrameCarries frame.Ceiling x = Unit {0}
FrameCarries frame.Crowded x = Unit {0}
FrameCarries (frame.Region r) x = Unit {0}

abbrev pub Carries : Scoring → Float → Type 0
Carries (scoring.Refused n) x = Unit {0}
Carries (scoring.Frame f n) x = FrameCarries f x

abbrev pub BanksPeak : Type 0
BanksPeak = (slack : ℕ) (w : World) → Carries (observed slack w).scored.answer (narrow (peak_of (observed slack w).buffers.scores))

-- steps 5 to 8 alone exhaust a scan, exactly where 64 or more frames then count without a region
abbrev pub ExhaustsByStep8 : Type 0
ExhaustsByStep8 =
    (slack : ℕ) (w : World)
    → let o = (observed slack w).scored in
    o.scan.verdict.exhausted ≡ pick (scored_one o.answer) (exhausted_by o.scan.verdict.frames o.scan.verdict.found w.scan.verdict.exhausted) w.scan.verdict.exhausted
