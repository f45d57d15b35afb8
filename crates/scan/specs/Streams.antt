-- Demand 3: a rearmed coarse scan forgets damage. The vocabulary of the statement, and the statement.
--
-- Pick any block number B. Suppose there has been no reset since the stream began, each call that is not refused gets the state and buffers as the
-- calls before left them, the rearm itself was not refused, and every near sample that begins a frame after the rearm, be it after a hole, carries an index of at least
-- (B + span) x decimation. Then each answer and report since the rearm is what the rules give from these alone: the settings, far samples numbered
-- B x decimation and up, how many far samples had been accepted at each moment, and the calls since the rearm. Earlier finite samples of any kind change nothing.
use Rattle.std.specs.Prelude.{ℕ, ◌+◌, ◌-◌, ◌*◌, ◌≤◌, min, ◌≡◌, List, [], ◌∷◌, ◌++◌, Bool, true, false, not, T, eqb, length, take, drop, Float}
use Rattle.std.specs.Float.{nan, binary32}
use Rattle.std.specs.Float.Ieee.{fits}
use Rattle.answers.specs.Pick.{pick, both, either}
use Rattle.answers.specs.Refusals.{none}
use Rattle.folds.specs.Sums.{zeros, table, all_finite}
use Rattle.scan.specs.Bins.{geometry_of, decimation_of, envelope_len, lags}
use Rattle.scan.specs.State.{Buffers, World, finished, idle}
use Rattle.scan.specs.Blocks.{on_grid, hole}
use Rattle.scan.specs.Steps.{Deed, near, score, rearm, discard, reset, ask, Call, far, deed, Response, refusal_of, called, making}
use Rattle.scan.specs.declared.Geometry.{Geometry}
use Rattle.scan.specs.declared.Scan.{Scan}

-- ---- streams

-- A call on the stream's own state and buffers, as the calls before left them; or a refused call, which may have been handed any.
pub data Item : Type 0 where
  own : Call → Item
  foreign : World → Call → Item

abbrev pub CallRefused : ℕ → World → Call → Type 0
CallRefused slack w c = refusal_of (called slack w c).response ≡ none → ⊥

abbrev pub Accepted : ℕ → World → Call → Type 0
Accepted slack w c = refusal_of (called slack w c).response ≡ none

-- the stream's state and buffers after the items
unfoldable pub after : ℕ → World → List Item → World
after slack w [] = w
after slack w (own c ∷ items) = after slack (called slack w c).world items
after slack w (foreign v c ∷ items) = after slack w items

-- the answers of the stream's own calls, in order
unfoldable pub answers : ℕ → World → List Item → List Response
answers slack w [] = []
answers slack w (own c ∷ items) = (called slack w c).response ∷ answers slack (called slack w c).world items
answers slack w (foreign v c ∷ items) = answers slack w items

-- the far samples that a call brings, if it is accepted
abbrev pub brought_by : ℕ → World → Call → List Float
brought_by slack w (far xs) = pick (eqb (refusal_of (called slack w (far xs)).response) none) xs []
brought_by slack w (deed d) = []

-- the far samples accepted, in order: sample number 0 is the first since the stream began
unfoldable pub heard : ℕ → World → List Item → List Float
heard slack w [] = []
heard slack w (own c ∷ items) = brought_by slack w c ++ heard slack (called slack w c).world items
heard slack w (foreign v c ∷ items) = heard slack w items

-- ---- what a stream keeps to

abbrev pub AllF32 : List Float → Type 0
AllF32 [] = Unit {0}
AllF32 (x ∷ xs) = T (fits binary32 x) × AllF32 xs

-- samples are of the type f32, and no reset is accepted
abbrev pub FairDeed : ℕ → World → Deed → Type 0
FairDeed slack w (near x index) = T (fits binary32 x)
FairDeed slack w score = Unit {0}
FairDeed slack w rearm = Unit {0}
FairDeed slack w discard = Unit {0}
FairDeed slack w reset = CallRefused slack w (deed reset)
FairDeed slack w (ask r) = Unit {0}

abbrev pub FairCall : ℕ → World → Call → Type 0
FairCall slack w (far xs) = AllF32 xs
FairCall slack w (deed d) = FairDeed slack w d

-- a call that was handed anything but the stream's own state and buffers is refused
abbrev pub Fair : ℕ → World → List Item → Type 0
Fair slack w [] = Unit {0}
Fair slack w (own c ∷ items) = FairCall slack w c × Fair slack (called slack w c).world items
Fair slack w (foreign v c ∷ items) = CallRefused slack v c × Fair slack w items

-- the sample begins a frame: no frame is under way, or one that it drops by a hole
abbrev pub begins : Scan → ℕ → Bool
begins s index = both (not (finished s.verdict)) (both (either (idle s.near) (hole s.near index)) (on_grid s.geometry index))

-- every near sample that begins a frame carries an index of at least (block + span) x decimation
abbrev pub LateDeed : ℕ → ℕ → World → Deed → Type 0
LateDeed slack block w (near x index) =
    Accepted slack w (deed (near x index)) → T (begins w.scan index) → (block + w.scan.geometry.span) * w.scan.geometry.decimation ≤ index
LateDeed slack block w score = Unit {0}
LateDeed slack block w rearm = Unit {0}
LateDeed slack block w discard = Unit {0}
LateDeed slack block w reset = Unit {0}
LateDeed slack block w (ask r) = Unit {0}

abbrev pub LateCall : ℕ → ℕ → World → Call → Type 0
LateCall slack block w (far xs) = Unit {0}
LateCall slack block w (deed d) = LateDeed slack block w d

abbrev pub Late : ℕ → ℕ → World → List Item → Type 0
Late slack block w [] = Unit {0}
Late slack block w (own c ∷ items) = LateCall slack block w c × Late slack block (called slack w c).world items
Late slack block w (foreign v c ∷ items) = Late slack block w items

-- the stream began: a making, or a reset of a scan with these settings, was not refused, and this is what it left
pub data Began (slack rate ceiling : ℕ) : World → Type 0 where
  by_making : (lent : Buffers) → refusal_of (making slack rate ceiling lent).response ≡ none → Began slack rate ceiling (making slack rate ceiling lent).world
  by_reset : (w : World) → w.scan.geometry.rate ≡ rate → w.scan.geometry.ceiling ≡ ceiling → Accepted slack w (deed reset)
      → Began slack rate ceiling (called slack w (deed reset)).world

-- ---- the allowed facts, and the rules run on clean audio. What stands here is given the facts and nothing else.

-- A call since the rearm. Of a far push: how many of its samples are numbered below B x decimation, whether all of these are finite, and the samples from there on.
pub data CleanCall : Type 0 where
  push : ℕ → Bool → List Float → CleanCall
  does : Deed → CleanCall

-- the lengths of the near envelope and of the buffers that scoring fills: a making is not lent these
pub record Lengths : Type 0 where
  pub levels : ℕ
  pub window : ℕ
  pub prefix : ℕ
  pub squares : ℕ
  pub scores : ℕ

-- The settings and the buffers' lengths; how many far samples had been accepted at the rearm with a number below B x decimation, and which from there on; the calls since.
pub record Facts : Type 0 where
  pub rate : ℕ
  pub ceiling : ℕ
  pub lengths : Lengths
  pub early : ℕ
  pub late : List Float
  pub calls : List CleanCall

-- in the place of n samples that nobody may look at: zeros, or where one of them is not finite NaNs, since the rules refuse the whole push then
abbrev pub unheard : ℕ → Bool → List Float
unheard n true = zeros n
unheard n false = table (λ i. nan) n

abbrev pub as_call : CleanCall → Call
as_call (push n fine xs) = far (unheard n fine ++ xs)
as_call (does d) = deed d

-- buffers of zeros
abbrev pub zero_buffers : ℕ → Geometry → Lengths → Buffers
zero_buffers slack g l =
    record {
      envelope = zeros (envelope_len slack g);
      levels = zeros l.levels;
      window = zeros l.window;
      prefix = zeros l.prefix;
      squares = zeros l.squares;
      scores = zeros l.scores;
      lag_sums = zeros (lags g);
    }

-- a new scan
abbrev pub clean_start : ℕ → Facts → World
clean_start slack f = (making slack f.rate f.ceiling (zero_buffers slack (geometry_of f.rate f.ceiling) f.lengths)).world

-- that was then fed silence for the early samples, and the late ones
unfoldable pub clean_world : ℕ → Facts → World
clean_world slack f = (called slack (clean_start slack f) (far (unheard f.early true ++ f.late))).world

-- the answers to these calls, each of them on what the one before left
unfoldable pub clean_answers : ℕ → World → List CleanCall → List Response
clean_answers slack w [] = []
clean_answers slack w (c ∷ calls) = (called slack w (as_call c)).response ∷ clean_answers slack (called slack w (as_call c)).world calls

-- what the rules give from these facts alone
unfoldable pub from_these_alone : ℕ → Facts → List Response
from_these_alone slack f = clean_answers slack (clean_world slack f) f.calls

-- ---- the facts of a stream

-- the number of the first far sample that is known
abbrev pub first_known : ℕ → ℕ → ℕ
first_known rate block = block * decimation_of rate

-- of samples numbered from n on: how many stand before the first known one, and those from there on
abbrev pub early_of : ℕ → ℕ → List Float → ℕ
early_of known n xs = min (known - n) (length xs)

abbrev pub late_of : ℕ → ℕ → List Float → List Float
late_of known n xs = drop (known - n) xs

-- a call, with nothing left of the samples before the first known one but their number and whether they are finite
abbrev pub clean_call : ℕ → World → Call → CleanCall
clean_call known w (far xs) =
    let n = w.scan.far.accepted in
    push (early_of known n xs) (all_finite (take (known - n) xs)) (late_of known n xs)
clean_call known w (deed d) = does d

-- the stream's own calls
unfoldable pub cleaned : ℕ → ℕ → World → List Item → List CleanCall
cleaned slack known w [] = []
cleaned slack known w (own c ∷ items) = clean_call known w c ∷ cleaned slack known (called slack w c).world items
cleaned slack known w (foreign v c ∷ items) = cleaned slack known w items

abbrev pub lengths_of : Buffers → Lengths
lengths_of b = record { levels = length b.levels; window = length b.window; prefix = length b.prefix; squares = length b.squares; scores = length b.scores }

-- ---- a stream with a rearm

-- the state and buffers from the rearm on
abbrev pub resumed : ℕ → World → List Item → World
resumed slack w earlier = (called slack (after slack w earlier) (deed rearm)).world

-- The stream began with w, and was rearmed between `earlier` and `later`. Supposed are: no accepted reset, and only refused calls on anything but the stream's own state
-- and buffers (`fair`, `fair_since`); a rearm that was not refused; late frames since.
pub record Stream (slack rate ceiling block : ℕ) (w : World) (earlier later : List Item) : Type 0 where
  pub began : Began slack rate ceiling w
  pub fair : Fair slack w earlier
  pub rearms : Accepted slack (after slack w earlier) (deed rearm)
  pub fair_since : Fair slack (resumed slack w earlier) later
  pub late : Late slack block (resumed slack w earlier) later

abbrev pub facts_of : ℕ → ℕ → ℕ → ℕ → World → List Item → List Item → Facts
facts_of slack rate ceiling block w earlier later =
    record {
      rate = rate;
      ceiling = ceiling;
      lengths = lengths_of w.buffers;
      early = early_of (first_known rate block) 0 (heard slack w earlier);
      late = late_of (first_known rate block) 0 (heard slack w earlier);
      calls = cleaned slack (first_known rate block) (resumed slack w earlier) later;
    }

abbrev pub answers_since : ℕ → World → List Item → List Item → List Response
answers_since slack w earlier later = answers slack (resumed slack w earlier) later

-- ---- the statements

-- demand 3
abbrev pub Forgets : Type 0
Forgets =
    (slack rate ceiling block : ℕ) (w : World) (earlier later : List Item) → Stream slack rate ceiling block w earlier later
    → answers_since slack w earlier later ≡ from_these_alone slack (facts_of slack rate ceiling block w earlier later)

-- For support: two streams that agree on these facts, whatever else they went through, give the same answers and reports since their rearms.
abbrev pub ForgetsTwo : Type 0
ForgetsTwo =
    (slack rate ceiling block : ℕ) (w w' : World) (earlier earlier' later later' : List Item)
    → Stream slack rate ceiling block w earlier later → Stream slack rate ceiling block w' earlier' later'
    → facts_of slack rate ceiling block w earlier later ≡ facts_of slack rate ceiling block w' earlier' later'
    → answers_since slack w earlier later ≡ answers_since slack w' earlier' later'
