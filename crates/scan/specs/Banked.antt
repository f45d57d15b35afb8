-- Steps 5 to 7 in a reader's words: the lag sums are those of exactly the frames that counted since the last decision, discard or rearm, and the fourth of them is decided on the
-- sums of these four.
use Rattle.std.specs.Prelude.{ℕ, ◌+◌, ◌≡◌, List, [], ◌∷◌, ◌++◌, Bool, true, not, ltb, eqb, length, Float}
use Rattle.answers.specs.Pick.{pick, both}
use Rattle.answers.specs.Refusals.{none}
use Rattle.floats.specs.Functions.{narrow}
use Rattle.folds.specs.Sums.{zeros}
use Rattle.scan.specs.Bins.{lags}
use Rattle.scan.specs.State.{World}
use Rattle.scan.specs.Scoring.{quiet, flat, scores_of, products, peak_of, add_scores, averages_of, decision}
use Rattle.scan.specs.Calls.{frame_of, window_in, is_uncovered, is_ahead}
use Rattle.scan.specs.Steps.{Call, near, score, rearm, discard, reset, ask, far, deed, refusal_of, scores, called}
use Rattle.scan.specs.Streams.{Item, after, Accepted, Began}
use Rattle.scan.specs.Along.{along}
use Rattle.scan.specs.declared.Frame.{Frame}
use Rattle.scan.specs.declared.Frame.TheVariants as frame
use Rattle.scan.specs.declared.Geometry.{Geometry}
use Rattle.scan.specs.declared.Scoring.TheVariants as scoring

-- a waiting frame counts: it is neither uncovered, ahead, quiet nor flat
abbrev pub counts : ℕ → World → Bool
counts slack w = both (not (is_uncovered slack w)) (both (not (is_ahead w)) (both (not (quiet (window_in slack w))) (not (flat (frame_of w)))))

-- its scores
abbrev pub scores_in : ℕ → World → List Float
scores_in slack w = scores_of w.scan.geometry (frame_of w) (window_in slack w)

-- the products that its lag sums take
abbrev pub products_in : ℕ → World → ℕ
products_in slack w = products w.scan.geometry (frame_of w) (window_in slack w)

-- The scores of the frames that counted since the last decision, discard or rearm, in order, after one call more. The fourth is a decision.
abbrev pub count_on : ℕ → List (List Float) → World → Call → List (List Float)
count_on slack frames w (far xs) = frames
count_on slack frames w (deed (near x index)) = frames
count_on slack frames w (deed score) =
    pick (both (eqb (refusal_of (called slack w (deed score)).response) none) (counts slack w))
    (pick (ltb (length frames + 1) 4) (frames ++ (scores_in slack w ∷ [])) [])
    frames
count_on slack frames w (deed rearm) = pick (eqb (refusal_of (called slack w (deed rearm)).response) none) [] frames
count_on slack frames w (deed discard) = pick (eqb (refusal_of (called slack w (deed discard)).response) none) [] frames
count_on slack frames w (deed reset) = pick (eqb (refusal_of (called slack w (deed reset)).response) none) [] frames
count_on slack frames w (deed (ask r)) = frames

-- since the stream began
abbrev pub counted_since : ℕ → World → List Item → List (List Float)
counted_since slack w items = along (count_on slack) [] slack w items

-- scores added lag by lag, one frame after the other, to zeros
unfoldable pub sums_from : Geometry → List Float → List (List Float) → List Float
sums_from g sums [] = sums
sums_from g sums (f ∷ frames) = sums_from g (add_scores g sums f) frames

abbrev pub sums_of : Geometry → List (List Float) → List Float
sums_of g frames = sums_from g (zeros (lags g)) frames

-- after any calls: so many frames are banked, and the lag sums are theirs
abbrev pub SumsOfCounted : Type 0
SumsOfCounted =
    (slack rate ceiling : ℕ) (w : World) (items : List Item) → Began slack rate ceiling w
    → ((after slack w items).scan.verdict.banked ≡ length (counted_since slack w items))
    × ((after slack w items).buffers.lag_sums ≡ sums_of (after slack w items).scan.geometry (counted_since slack w items))

-- a frame that counts is answered from these frames and itself: banked as one of the first three, decided on the sums of all four as the fourth
abbrev pub answer_by : Geometry → List (List Float) → List Float → Frame
answer_by g frames f = pick (ltb (length frames + 1) 4) (frame.Banked (narrow (peak_of f))) (decision g (averages_of g (sums_of g (frames ++ (f ∷ [])))))

abbrev pub DecidesOnFour : Type 0
DecidesOnFour =
    (slack rate ceiling : ℕ) (w : World) (items : List Item) → Began slack rate ceiling w
    → let v = after slack w items in
    Accepted slack v (deed score) → counts slack v ≡ true
    → (called slack v (deed score)).response ≡ scores (scoring.Frame (answer_by v.scan.geometry (counted_since slack w items) (scores_in slack v)) (products_in slack v))
