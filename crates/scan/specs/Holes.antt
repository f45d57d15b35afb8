-- Request d: holes in the near numbering. What the rule of `held_at` gives, over any list of calls; and the definition that stood before, which compares no indices.
use Rattle.std.specs.Prelude.{ℕ, zero, suc, ◌+◌, ◌-◌, ◌*◌, ◌<◌, ◌≡◌, List, [], ◌∷◌, true, false, not, ltb, eqb, length, take, drop, Float}
use Rattle.std.specs.Float.Ieee.Scale.{finite}
use Rattle.answers.specs.Pick.{pick, either}
use Rattle.answers.specs.Refusals.{require, before, if_refused, none, not_finite, too_large, frame_waits}
use Rattle.answers.specs.Numbers.{limit}
use Rattle.floats.specs.Functions.{zero64}
use Rattle.folds.specs.Sums.{at}
use Rattle.scan.specs.Bins.{near_len}
use Rattle.scan.specs.State.{World, emptied, finished, full, taken, due, first_refusals}
use Rattle.scan.specs.Blocks.{Seen, gather, dropped, hole, summed, level_of}
use Rattle.scan.specs.Calls.{NearPush, untaken, taken_by, with_near, pushed_near}
use Rattle.scan.specs.Steps.{Deed, near, score, rearm, discard, reset, ask, Call, far, deed, Response, takes, Step, step, with_levels, called}
use Rattle.scan.specs.Streams.{Item, own, foreign, after, answers, Accepted, Began, begins}
use Rattle.scan.specs.declared.Geometry.{Geometry}
use Rattle.scan.specs.declared.Scan.{Scan}
use Rattle.scan.specs.declared.Taking.{Taking}
use Rattle.scan.specs.declared.Taking.TheVariants as taking

-- ---- the samples that a stream took, the latest first

pub record Sample : Type 0 where
  pub value : Float
  pub index : ℕ

-- a sample is taken where the answer says so
abbrev pub with_taken : Taking → Sample → List Sample → List Sample
with_taken (taking.Refused n) x past = past
with_taken taking.Ignored x past = past
with_taken taking.Dropped x past = past
with_taken taking.Taken x past = x ∷ past
with_taken taking.Full x past = x ∷ past

abbrev pub noted_deed : World → Deed → List Sample → List Sample
noted_deed w (near x index) past = with_taken (pushed_near w.scan w.buffers.levels x index).took.answer (record { value = x; index = index }) past
noted_deed w score past = past
noted_deed w rearm past = past
noted_deed w discard past = past
noted_deed w reset past = past
noted_deed w (ask r) past = past

abbrev pub noted_call : World → Call → List Sample → List Sample
noted_call w (far xs) past = past
noted_call w (deed d) past = noted_deed w d past

-- after these calls, with this past
unfoldable pub samples_taken : ℕ → World → List Item → List Sample → List Sample
samples_taken slack w [] past = past
samples_taken slack w (own c ∷ items) past = samples_taken slack (called slack w c).world items (noted_call w c past)
samples_taken slack w (foreign v c ∷ items) past = samples_taken slack w items past

-- ---- every sample of a frame stands where its index says

abbrev pub indices_of : List Sample → List ℕ
indices_of [] = []
indices_of (x ∷ past) = x.index ∷ indices_of past

-- the n numbers from a on, the largest first
abbrev pub up_from : ℕ → ℕ → List ℕ
up_from a zero = []
up_from a (suc n) = (a + n) ∷ up_from a n

-- the running sum of the n latest samples, in the order in which they came
abbrev pub sum_of_latest : ℕ → List Sample → Float
sum_of_latest zero past = zero64
sum_of_latest (suc n) [] = zero64
sum_of_latest (suc n) (x ∷ past) = summed (sum_of_latest n past) x.value

-- The samples of the frame under way are the latest that were taken. The first of them has the index first bin x decimation, and each later one the next. Bin i is the level of the
-- samples numbered i x decimation to i x decimation + decimation - 1 of the frame: with indices of block first + i, which far block first + i has too.
pub record FrameInPlace (g : Geometry) (t : Seen) (past : List Sample) : Type 0 where
  pub indices : take (taken g t.near) (indices_of past) ≡ up_from (t.near.first * g.decimation) (taken g t.near)
  pub sum : t.near.sum ≡ sum_of_latest t.near.count past
  pub bins : (i : ℕ) → i < t.near.len → at t.levels i ≡ level_of g (sum_of_latest g.decimation (drop (t.near.count + (t.near.len - 1 - i) * g.decimation) past))

-- over any list of calls, resets and samples of any kind among them
abbrev pub InPlace : Type 0
InPlace =
    (slack rate ceiling : ℕ) (w : World) (items : List Item) → Began slack rate ceiling w
    → let e = after slack w items in
    FrameInPlace e.scan.geometry (record { near = e.scan.near; levels = e.buffers.levels }) (samples_taken slack w items [])

-- The same of one bin, with the indices of its samples: those of block first + i.
pub record BinInPlace (g : Geometry) (t : Seen) (past : List Sample) (i : ℕ) : Type 0 where
  -- the latest samples, but for those after the bin
  pub from : ℕ
  pub level : at t.levels i ≡ level_of g (sum_of_latest g.decimation (drop from past))
  pub indices : take g.decimation (indices_of (drop from past)) ≡ up_from ((t.near.first + i) * g.decimation) g.decimation

abbrev pub BinsInPlace : Type 0
BinsInPlace =
    (slack rate ceiling : ℕ) (w : World) (items : List Item) → Began slack rate ceiling w
    → let e = after slack w items in
    (i : ℕ) → i < e.scan.near.len → BinInPlace e.scan.geometry (record { near = e.scan.near; levels = e.buffers.levels }) (samples_taken slack w items []) i

-- ---- what a hole changes

-- A near sample, whether it meets a hole or not, changes nothing but the near side and its levels: the frames scored and summed stay.
pub record NearOnly (w v : World) : Type 0 where
  pub geometry : v.scan.geometry ≡ w.scan.geometry
  pub far : v.scan.far ≡ w.scan.far
  pub verdict : v.scan.verdict ≡ w.scan.verdict
  pub buffers : with_levels v.buffers w.buffers.levels ≡ w.buffers

abbrev pub HoleKeeps : Type 0
HoleKeeps = (slack : ℕ) (w : World) (x : Float) (index : ℕ) → NearOnly w (called slack w (deed (near x index))).world

-- the world with no frame under way
abbrev pub without_frame : World → World
without_frame w = record { scan = with_near w.scan (emptied w.scan.near); buffers = w.buffers }

-- A sample that meets a hole and is not refused is a possible first sample: the call is what it would be with no frame under way.
abbrev pub HoleBegins : Type 0
HoleBegins =
    (slack : ℕ) (w : World) (x : Float) (index : ℕ) → hole w.scan.near index ≡ true → Accepted slack w (deed (near x index))
    → called slack w (deed (near x index)) ≡ called slack (without_frame w) (deed (near x index))

-- What demand 3 calls a sample that begins a frame does so: it is the frame's only sample, also where it dropped another frame.
abbrev pub BeginsFrame : Type 0
BeginsFrame =
    (slack : ℕ) (w : World) (x : Float) (index : ℕ) → Accepted slack w (deed (near x index)) → begins w.scan index ≡ true
    → let v = (called slack w (deed (near x index))).world in
    (taken v.scan.geometry v.scan.near ≡ 1) × (v.scan.near.first * v.scan.geometry.decimation ≡ index)

-- ---- the near sample of before: the samples after a frame's first are taken as consecutive, indices not compared

unfoldable pub refusal_without : Scan → List Float → Float → ℕ → ℕ
refusal_without s levels x index =
    before (first_refusals s (eqb (length levels) (near_len (due s))))
    (pick (finished s.verdict) none
    (require (not (full s.geometry s.near)) frame_waits
    (require (ltb index limit) too_large
    (require (either (dropped s.geometry s.near index) (finite x)) not_finite
    none))))

unfoldable pub pushed_without : Scan → List Float → Float → ℕ → NearPush
pushed_without s levels x index =
    let n = refusal_without s levels x index in
    if_refused n
    (untaken s levels (taking.Refused n))
    (pick (finished s.verdict) (untaken s levels taking.Ignored)
    (pick (dropped s.geometry s.near index) (untaken s levels taking.Dropped)
    (taken_by s (gather s.geometry (record { near = s.near; levels = levels }) x index))))

abbrev pub deed_without : ℕ → World → Deed → Step
deed_without slack w (near x index) =
    let p = pushed_without w.scan w.buffers.levels x index in
    step (takes p.took.answer) p.took.scan (with_levels w.buffers p.levels)
deed_without slack w score = called slack w (deed score)
deed_without slack w rearm = called slack w (deed rearm)
deed_without slack w discard = called slack w (deed discard)
deed_without slack w reset = called slack w (deed reset)
deed_without slack w (ask r) = called slack w (deed (ask r))

abbrev pub called_without : ℕ → World → Call → Step
called_without slack w (far xs) = called slack w (far xs)
called_without slack w (deed d) = deed_without slack w d

unfoldable pub after_without : ℕ → World → List Item → World
after_without slack w [] = w
after_without slack w (own c ∷ items) = after_without slack (called_without slack w c).world items
after_without slack w (foreign v c ∷ items) = after_without slack w items

unfoldable pub answers_without : ℕ → World → List Item → List Response
answers_without slack w [] = []
answers_without slack w (own c ∷ items) = (called_without slack w c).response ∷ answers_without slack (called_without slack w c).world items
answers_without slack w (foreign v c ∷ items) = answers_without slack w items

-- no accepted near sample meets a hole
abbrev pub NoHoleDeed : ℕ → World → Deed → Type 0
NoHoleDeed slack w (near x index) = Accepted slack w (deed (near x index)) → hole w.scan.near index ≡ false
NoHoleDeed slack w score = Unit {0}
NoHoleDeed slack w rearm = Unit {0}
NoHoleDeed slack w discard = Unit {0}
NoHoleDeed slack w reset = Unit {0}
NoHoleDeed slack w (ask r) = Unit {0}

abbrev pub NoHoleCall : ℕ → World → Call → Type 0
NoHoleCall slack w (far xs) = Unit {0}
NoHoleCall slack w (deed d) = NoHoleDeed slack w d

abbrev pub NoHoles : ℕ → World → List Item → Type 0
NoHoles slack w [] = Unit {0}
NoHoles slack w (own c ∷ items) = NoHoleCall slack w c × NoHoles slack (called slack w c).world items
NoHoles slack w (foreign v c ∷ items) = NoHoles slack w items

-- such a list of calls is answered as it was before, and leaves what was left then, whatever world it begins with
abbrev pub WithoutHoles : Type 0
WithoutHoles =
    (slack : ℕ) (w : World) (items : List Item) → NoHoles slack w items → (answers slack w items ≡ answers_without slack w items) × (after slack w items ≡ after_without slack w items)
