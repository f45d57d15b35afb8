-- What the near envelope holds: in each bin of the frame under way the level of exactly that bin's own samples.
use Rattle.std.specs.Prelude.{ℕ, ◌+◌, ◌*◌, ◌<◌, ◌≡◌, List, [], ◌∷◌, ◌++◌, eqb, length, Float}
use Rattle.answers.specs.Pick.{pick}
use Rattle.answers.specs.Refusals.{none}
use Rattle.floats.specs.Functions.{magnitude}
use Rattle.folds.specs.Sums.{upto, at}
use Rattle.scan.specs.State.{World}
use Rattle.scan.specs.Blocks.{hole}
use Rattle.scan.specs.Calls.{pushed_near}
use Rattle.scan.specs.Steps.{Call, near, score, rearm, discard, reset, ask, far, deed, refusal_of, called}
use Rattle.scan.specs.Streams.{Item, after, Began}
use Rattle.scan.specs.Along.{along}
use Rattle.scan.specs.declared.Geometry.{Geometry}
use Rattle.scan.specs.declared.Near.{Near}
use Rattle.scan.specs.declared.Taking.{Taking}
use Rattle.scan.specs.declared.Taking.TheVariants as taking
use Rattle.scan_push.specs.Envelope.{level_of_block}

-- the samples of the frame under way after one sample more, where xs were before it and `held` are what a hole leaves of them
abbrev pub frame_by : Taking → List Float → List Float → Float → List Float
frame_by (taking.Refused n) xs held x = xs
frame_by taking.Ignored xs held x = xs
frame_by taking.Dropped xs held x = held
frame_by taking.Taken xs held x = held ++ (x ∷ [])
frame_by taking.Full xs held x = held ++ (x ∷ [])

-- The samples of the frame under way, after one call more: a sample that is taken goes on with them, and with none after a hole; after a frame that was scored, a rearm, a discard and a reset
-- there are none.
abbrev pub frame_on : ℕ → List Float → World → Call → List Float
frame_on slack xs w (far ys) = xs
frame_on slack xs w (deed (near x index)) = frame_by (pushed_near w.scan w.buffers.levels x index).took.answer xs (pick (hole w.scan.near index) [] xs) x
frame_on slack xs w (deed score) = pick (eqb (refusal_of (called slack w (deed score)).response) none) [] xs
frame_on slack xs w (deed rearm) = pick (eqb (refusal_of (called slack w (deed rearm)).response) none) [] xs
frame_on slack xs w (deed discard) = pick (eqb (refusal_of (called slack w (deed discard)).response) none) [] xs
frame_on slack xs w (deed reset) = pick (eqb (refusal_of (called slack w (deed reset)).response) none) [] xs
frame_on slack xs w (deed (ask r)) = xs

-- since the stream began
abbrev pub frame_samples : ℕ → World → List Item → List Float
frame_samples slack w items = along (frame_on slack) [] slack w items

-- D samples stand for each bin of the frame, and what is left goes into the next: bin j's level is that of samples jD to jD + D - 1, and the running sum is that of the rest.
pub record HoldsFrame (g : Geometry) (n : Near) (levels xs : List Float) : Type 0 where
  pub placed : length xs ≡ n.len * g.decimation + n.count
  pub levelled : (j : ℕ) → j < n.len → at levels j ≡ level_of_block g j xs
  pub sum : n.sum ≡ upto (λ i. magnitude (at xs (n.len * g.decimation + i))) n.count

-- after any calls
abbrev pub HoldsNearLevels : Type 0
HoldsNearLevels =
    (slack rate ceiling : ℕ) (w : World) (items : List Item) → Began slack rate ceiling w
    → let v = after slack w items in HoldsFrame v.scan.geometry v.scan.near v.buffers.levels (frame_samples slack w items)
