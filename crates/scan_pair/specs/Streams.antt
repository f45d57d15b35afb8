-- Calls on a pair, one after the other, and what each channel may rely on: "What one channel is fed, refused, rearmed or discarded must not change the other's answers, counts
-- or reports" (`Apart`), and "Demand 3 then holds for each channel by itself, the other's calls not counting among its own" (`PairForgets`).
use Rattle.std.specs.Prelude.{ℕ, ◌≡◌, List, [], ◌∷◌, ◌++◌, T, eqb, Float}
use Rattle.std.specs.Float.{binary32}
use Rattle.std.specs.Float.Ieee.{fits}
use Rattle.answers.specs.Pick.{pick}
use Rattle.answers.specs.Refusals.{none, outside_table, broken_state, not_finite}
use Rattle.scan.specs.State.{World}
use Rattle.scan.specs.Steps.{Call, deed, Response, refusal_of}
use Rattle.scan.specs.Steps as base
use Rattle.scan.specs.Streams.{Item, answers, Began, AllF32, LateCall, CleanCall, clean_call, Facts, lengths_of, first_known, early_of, late_of, from_these_alone}
use Rattle.scan.specs.Streams as stream
use Rattle.scan.specs.Health.{Healthy}
use Rattle.scan_pair.specs.State.{Side, first, second, other, number_of, Named, channel, unknown, named, PairBuffers, PairWorld, seen}
use Rattle.scan_pair.specs.Steps.{Own, near, score, rearm, discard, ask, PairCall, on, far, reset, settings, as_setting, as_deed, pair_called, pair_making}

-- ---- streams

-- A call on the pair's own state and buffers, as the calls before left them; or a refused call, which may have been handed any.
pub data PairItem : Type 0 where
  own : PairCall → PairItem
  foreign : PairWorld → PairCall → PairItem

abbrev pub PairRefused : ℕ → PairWorld → PairCall → Type 0
PairRefused slack w c = refusal_of (pair_called slack w c).response ≡ none → ⊥

abbrev pub PairAccepted : ℕ → PairWorld → PairCall → Type 0
PairAccepted slack w c = refusal_of (pair_called slack w c).response ≡ none

unfoldable pub pair_after : ℕ → PairWorld → List PairItem → PairWorld
pair_after slack w [] = w
pair_after slack w (own c ∷ items) = pair_after slack (pair_called slack w c).world items
pair_after slack w (foreign v c ∷ items) = pair_after slack w items

-- ---- a channel's share of the calls

-- of the calls of the pair, what channel d counts among its own, as a call of a scan: those that name it, far pushes, resets and reports of the settings
pub data Share : Type 0 where
  its : Call → Share
  others : Share

abbrev pub own_share : Side → Named → Own → Share
own_share first (channel first) k = its (deed (as_deed k))
own_share first (channel second) k = others
own_share second (channel first) k = others
own_share second (channel second) k = its (deed (as_deed k))
own_share first unknown k = others
own_share second unknown k = others

unfoldable pub share : Side → PairCall → Share
share d (on c k) = own_share d (named c) k
share d (far xs) = its (base.far xs)
share d reset = its (deed base.reset)
share d (settings r) = its (deed (base.ask (as_setting r)))

-- the answers to these calls, in order
abbrev pub with_answer : Share → Response → List Response → List Response
with_answer (its c) a rest = a ∷ rest
with_answer others a rest = rest

unfoldable pub answers_to : Side → ℕ → PairWorld → List PairItem → List Response
answers_to d slack w [] = []
answers_to d slack w (own c ∷ items) = with_answer (share d c) (pair_called slack w c).response (answers_to d slack (pair_called slack w c).world items)
answers_to d slack w (foreign v c ∷ items) = answers_to d slack w items

-- ---- what a stream keeps to

-- samples are of the type f32
abbrev pub F32Own : Own → Type 0
F32Own (near x index) = T (fits binary32 x)
F32Own score = Unit {0}
F32Own rearm = Unit {0}
F32Own discard = Unit {0}
F32Own (ask r) = Unit {0}

abbrev pub PairF32Call : PairCall → Type 0
PairF32Call (on c k) = F32Own k
PairF32Call (far xs) = AllF32 xs
PairF32Call reset = Unit {0}
PairF32Call (settings r) = Unit {0}

abbrev pub F32Items : List PairItem → Type 0
F32Items [] = Unit {0}
F32Items (own c ∷ items) = PairF32Call c × F32Items items
F32Items (foreign v c ∷ items) = F32Items items

-- and no reset is accepted
abbrev pub NoReset : ℕ → PairWorld → PairCall → Type 0
NoReset slack w (on c k) = Unit {0}
NoReset slack w (far xs) = Unit {0}
NoReset slack w reset = PairRefused slack w reset
NoReset slack w (settings r) = Unit {0}

-- a call that was handed anything but the pair's own state and buffers is refused
abbrev pub PairFair : ℕ → PairWorld → List PairItem → Type 0
PairFair slack w [] = Unit {0}
PairFair slack w (own c ∷ items) = PairF32Call c × NoReset slack w c × PairFair slack (pair_called slack w c).world items
PairFair slack w (foreign v c ∷ items) = PairRefused slack v c × PairFair slack w items

-- the pair began: a making, or a reset of a pair with these settings, was not refused, and this is what it left
pub data PairBegan (slack rate ceiling : ℕ) : PairWorld → Type 0 where
  by_making : (lent : PairBuffers) → refusal_of (pair_making slack rate ceiling lent).response ≡ none → PairBegan slack rate ceiling (pair_making slack rate ceiling lent).world
  by_reset : (w : PairWorld) → w.pair.geometry.rate ≡ rate → w.pair.geometry.ceiling ≡ ceiling → PairAccepted slack w reset
      → PairBegan slack rate ceiling (pair_called slack w reset).world

-- ---- each channel as a scan alone

-- a channel's share of a list, as the list of a scan
abbrev pub with_item : Share → List Item → List Item
with_item (its c) rest = stream.own c ∷ rest
with_item others rest = rest

unfoldable pub items_of : Side → List PairItem → List Item
items_of d [] = []
items_of d (own c ∷ items) = with_item (share d c) (items_of d items)
items_of d (foreign v c ∷ items) = items_of d items

-- From a making on, a channel answers as a scan of its own that began with the same settings and is given the channel's calls and the common ones.
abbrev pub AsAlone : Type 0
AsAlone =
    (slack rate ceiling : ℕ) (d : Side) (w : PairWorld) (items : List PairItem) → PairBegan slack rate ceiling w → F32Items items
    → Began slack rate ceiling (seen w d) × (answers_to d slack w items ≡ answers slack (seen w d) (items_of d items))

-- ---- independence

-- the list without the calls of channel e
abbrev pub unless_named : Side → Named → PairItem → List PairItem → List PairItem
unless_named first (channel first) item rest = rest
unless_named first (channel second) item rest = item ∷ rest
unless_named second (channel first) item rest = item ∷ rest
unless_named second (channel second) item rest = rest
unless_named first unknown item rest = item ∷ rest
unless_named second unknown item rest = item ∷ rest

unfoldable pub without : Side → List PairItem → List PairItem
without e [] = []
without e (own (on c k) ∷ items) = unless_named e (named c) (own (on c k)) (without e items)
without e (own (far xs) ∷ items) = own (far xs) ∷ without e items
without e (own reset ∷ items) = own reset ∷ without e items
without e (own (settings r) ∷ items) = own (settings r) ∷ without e items
without e (foreign v c ∷ items) = foreign v c ∷ without e items

-- The answers to one channel's calls, to far pushes, to resets and to reports of the settings are those of the same list without the other channel's calls.
abbrev pub Apart : Type 0
Apart =
    (slack rate ceiling : ℕ) (d : Side) (w : PairWorld) (items : List PairItem) → PairBegan slack rate ceiling w → F32Items items
    → answers_to d slack w items ≡ answers_to d slack w (without (other d) items)

-- Of any pair, broken or not, the same holds of lists without a reset: a reset alone looks at both channels.
abbrev pub NoResetIn : List PairItem → Type 0
NoResetIn [] = Unit {0}
NoResetIn (own (on c k) ∷ items) = NoResetIn items
NoResetIn (own (far xs) ∷ items) = NoResetIn items
NoResetIn (own reset ∷ items) = ⊥
NoResetIn (own (settings r) ∷ items) = NoResetIn items
NoResetIn (foreign v c ∷ items) = NoResetIn items

abbrev pub ApartAnywhere : Type 0
ApartAnywhere = (slack : ℕ) (d : Side) (w : PairWorld) (items : List PairItem) → NoResetIn items → answers_to d slack w items ≡ answers_to d slack w (without (other d) items)

-- ---- demand 3 for each channel by itself: `Facts`, `LateCall` and `from_these_alone` are the scan's own

-- the far samples accepted, in order
abbrev pub pair_brought : ℕ → PairWorld → PairCall → List Float
pair_brought slack w (on c k) = []
pair_brought slack w (far xs) = pick (eqb (refusal_of (pair_called slack w (far xs)).response) none) xs []
pair_brought slack w reset = []
pair_brought slack w (settings r) = []

unfoldable pub pair_heard : ℕ → PairWorld → List PairItem → List Float
pair_heard slack w [] = []
pair_heard slack w (own c ∷ items) = pair_brought slack w c ++ pair_heard slack (pair_called slack w c).world items
pair_heard slack w (foreign v c ∷ items) = pair_heard slack w items

-- a channel's share of the calls, with nothing left of the far samples before the first known one but their number and whether they are finite
abbrev pub with_clean : ℕ → World → Share → List CleanCall → List CleanCall
with_clean known v (its c) rest = clean_call known v c ∷ rest
with_clean known v others rest = rest

unfoldable pub pair_cleaned : Side → ℕ → ℕ → PairWorld → List PairItem → List CleanCall
pair_cleaned d slack known w [] = []
pair_cleaned d slack known w (own c ∷ items) = with_clean known (seen w d) (share d c) (pair_cleaned d slack known (pair_called slack w c).world items)
pair_cleaned d slack known w (foreign v c ∷ items) = pair_cleaned d slack known w items

-- every near sample that begins a frame of channel d carries an index of at least (block + span) x decimation
abbrev pub LateShare : ℕ → ℕ → World → Share → Type 0
LateShare slack block v (its c) = LateCall slack block v c
LateShare slack block v others = Unit {0}

abbrev pub PairLate : Side → ℕ → ℕ → PairWorld → List PairItem → Type 0
PairLate d slack block w [] = Unit {0}
PairLate d slack block w (own c ∷ items) = LateShare slack block (seen w d) (share d c) × PairLate d slack block (pair_called slack w c).world items
PairLate d slack block w (foreign v c ∷ items) = PairLate d slack block w items

abbrev pub rearm_of : Side → PairCall
rearm_of d = on (number_of d) rearm

-- the pair and its buffers from the rearm of channel d on
abbrev pub pair_resumed : Side → ℕ → PairWorld → List PairItem → PairWorld
pair_resumed d slack w earlier = (pair_called slack (pair_after slack w earlier) (rearm_of d)).world

-- The pair began with w, and channel d was rearmed between `earlier` and `later`. Of the other channel nothing is supposed but what is supposed of every call.
pub record PairStream (d : Side) (slack rate ceiling block : ℕ) (w : PairWorld) (earlier later : List PairItem) : Type 0 where
  pub began : PairBegan slack rate ceiling w
  pub fair : PairFair slack w earlier
  pub rearms : PairAccepted slack (pair_after slack w earlier) (rearm_of d)
  pub fair_since : PairFair slack (pair_resumed d slack w earlier) later
  pub late : PairLate d slack block (pair_resumed d slack w earlier) later

abbrev pub pair_facts_of : Side → ℕ → ℕ → ℕ → ℕ → PairWorld → List PairItem → List PairItem → Facts
pair_facts_of d slack rate ceiling block w earlier later =
    record {
      rate = rate;
      ceiling = ceiling;
      lengths = lengths_of (seen w d).buffers;
      early = early_of (first_known rate block) 0 (pair_heard slack w earlier);
      late = late_of (first_known rate block) 0 (pair_heard slack w earlier);
      calls = pair_cleaned d slack (first_known rate block) (pair_resumed d slack w earlier) later;
    }

abbrev pub PairForgets : Type 0
PairForgets =
    (d : Side) (slack rate ceiling block : ℕ) (w : PairWorld) (earlier later : List PairItem) → PairStream d slack rate ceiling block w earlier later
    → answers_to d slack (pair_resumed d slack w earlier) later ≡ from_these_alone slack (pair_facts_of d slack rate ceiling block w earlier later)

-- For support: two pairs that agree on a channel's facts, whatever else they went through, give that channel the same answers since its rearm.
abbrev pub PairForgetsTwo : Type 0
PairForgetsTwo =
    (d d' : Side) (slack rate ceiling block : ℕ) (w w' : PairWorld) (earlier earlier' later later' : List PairItem)
    → PairStream d slack rate ceiling block w earlier later → PairStream d' slack rate ceiling block w' earlier' later'
    → pair_facts_of d slack rate ceiling block w earlier later ≡ pair_facts_of d' slack rate ceiling block w' earlier' later'
    → answers_to d slack (pair_resumed d slack w earlier) later ≡ answers_to d' slack (pair_resumed d' slack w' earlier') later'

-- ---- the pair's own state is never broken

abbrev pub PairStaysHealthy : Type 0
PairStaysHealthy =
    (slack rate ceiling : ℕ) (d : Side) (w : PairWorld) (items : List PairItem) → PairBegan slack rate ceiling w → PairFair slack w items → Healthy (seen (pair_after slack w items) d)

-- no call is refused with 1 or 3
abbrev pub PairNeverBroken : Type 0
PairNeverBroken =
    (slack rate ceiling : ℕ) (w : PairWorld) (items : List PairItem) → PairBegan slack rate ceiling w → PairFair slack w items → (c : PairCall)
    → (refusal_of (pair_called slack (pair_after slack w items) c).response ≡ outside_table → ⊥) × (refusal_of (pair_called slack (pair_after slack w items) c).response ≡ broken_state → ⊥)

-- and no frame with 4
abbrev pub PairNeverUnreadable : Type 0
PairNeverUnreadable =
    (slack rate ceiling c : ℕ) (w : PairWorld) (items : List PairItem) → PairBegan slack rate ceiling w → PairFair slack w items
    → refusal_of (pair_called slack (pair_after slack w items) (on c score)).response ≡ not_finite → ⊥

-- so the rearm of demand 3 is never refused
abbrev pub PairRearmsAlways : Type 0
PairRearmsAlways =
    (slack rate ceiling : ℕ) (d : Side) (w : PairWorld) (items : List PairItem) → PairBegan slack rate ceiling w → PairFair slack w items → PairAccepted slack (pair_after slack w items) (rearm_of d)
