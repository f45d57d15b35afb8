-- Demand 3 from four facts alone: the settings, the far samples numbered B x decimation and up, how many far samples had been accepted at each moment, and the accepted calls
-- since the rearm. Only accepted calls count, in the stream and in what is run in its place, and the buffers have the paper's lengths. So nothing has to be known of a sample
-- numbered below B x decimation but that it came: a push with one that is not finite is refused, and is no accepted call.
use Rattle.std.specs.Prelude.{ℕ, ◌+◌, ◌-◌, min, ◌≡◌, List, [], ◌∷◌, ◌++◌, Bool, true, eqb, length, take, drop, Float}
use Rattle.answers.specs.Pick.{pick}
use Rattle.answers.specs.Refusals.{none}
use Rattle.scan.specs.Bins.{geometry_of, near_len, window_len, prefix_len, lags}
use Rattle.scan.specs.State.{World}
use Rattle.scan.specs.Steps.{Deed, Call, far, deed, Response, refusal_of, called}
use Rattle.scan.specs.Streams.{Item, own, foreign, heard, CleanCall, push, does, Lengths, lengths_of, Facts, from_these_alone, first_known, resumed, Stream}
use Rattle.scan.specs.declared.Geometry.{Geometry}

-- ---- the four facts

-- a call that was accepted; of a far push, how many samples it brought
pub data AcceptedCall : Type 0 where
  brings : ℕ → AcceptedCall
  makes : Deed → AcceptedCall

pub record FourFacts : Type 0 where
  -- the settings
  pub rate : ℕ
  pub ceiling : ℕ
  -- the far samples numbered B x decimation and up, in order
  pub known : List Float
  -- how many far samples had been accepted by the rearm: since then each push says how many more
  pub count : ℕ
  -- the accepted calls since the rearm
  pub calls : List AcceptedCall

-- ---- the rules run on them

-- the lengths that the paper gives the buffers
abbrev pub paper_lengths : Geometry → Lengths
paper_lengths g = record { levels = near_len g; window = window_len g; prefix = prefix_len g; squares = prefix_len g; scores = lags g }

-- of the samples numbered m to m + n - 1: how many stand before the first known one, and those from there on
abbrev pub early_in : ℕ → ℕ → ℕ → ℕ
early_in first m n = min (first - m) n

abbrev pub late_in : ℕ → List Float → ℕ → ℕ → List Float
late_in first known m n = take (n - (first - m)) (drop (m - first) known)

-- the calls, where m far samples had been accepted before them: every sample of an accepted push is finite
unfoldable pub clean_calls : ℕ → List Float → ℕ → List AcceptedCall → List CleanCall
clean_calls first known m [] = []
clean_calls first known m (brings n ∷ calls) = push (early_in first m n) true (late_in first known m n) ∷ clean_calls first known (m + n) calls
clean_calls first known m (makes d ∷ calls) = does d ∷ clean_calls first known m calls

-- a new scan with the paper's buffers, fed silence for the samples before the first known one
abbrev pub as_facts : ℕ → FourFacts → Facts
as_facts block f =
    let first = first_known f.rate block in
    record {
      rate = f.rate;
      ceiling = f.ceiling;
      lengths = paper_lengths (geometry_of f.rate f.ceiling);
      early = early_in first 0 f.count;
      late = late_in first f.known 0 f.count;
      calls = clean_calls first f.known f.count f.calls;
    }

-- what the rules give from the four facts alone
abbrev pub from_four_facts : ℕ → ℕ → FourFacts → List Response
from_four_facts slack block f = from_these_alone slack (as_facts block f)

-- ---- the four facts of a stream

abbrev pub is_accepted : ℕ → World → Call → Bool
is_accepted slack w c = eqb (refusal_of (called slack w c).response) none

abbrev pub accepted_call : Call → AcceptedCall
accepted_call (far xs) = brings (length xs)
accepted_call (deed d) = makes d

-- the stream's own calls that are accepted
unfoldable pub accepted_calls : ℕ → World → List Item → List AcceptedCall
accepted_calls slack w [] = []
accepted_calls slack w (own c ∷ items) =
    let rest = accepted_calls slack (called slack w c).world items in
    pick (is_accepted slack w c) (accepted_call c ∷ rest) rest
accepted_calls slack w (foreign v c ∷ items) = accepted_calls slack w items

-- and their answers
unfoldable pub accepted_answers : ℕ → World → List Item → List Response
accepted_answers slack w [] = []
accepted_answers slack w (own c ∷ items) =
    let rest = accepted_answers slack (called slack w c).world items in
    pick (is_accepted slack w c) ((called slack w c).response ∷ rest) rest
accepted_answers slack w (foreign v c ∷ items) = accepted_answers slack w items

abbrev pub four_facts_of : ℕ → ℕ → ℕ → ℕ → World → List Item → List Item → FourFacts
four_facts_of slack rate ceiling block w earlier later =
    record {
      rate = rate;
      ceiling = ceiling;
      known = drop (first_known rate block) (heard slack w earlier ++ heard slack (resumed slack w earlier) later);
      count = length (heard slack w earlier);
      calls = accepted_calls slack (resumed slack w earlier) later;
    }

-- ---- the statements

-- the buffers that the stream began with have the paper's lengths
abbrev pub PaperBuffers : ℕ → ℕ → World → Type 0
PaperBuffers rate ceiling w = lengths_of w.buffers ≡ paper_lengths (geometry_of rate ceiling)

abbrev pub ForgetsAccepted : Type 0
ForgetsAccepted =
    (slack rate ceiling block : ℕ) (w : World) (earlier later : List Item) → Stream slack rate ceiling block w earlier later → PaperBuffers rate ceiling w
    → accepted_answers slack (resumed slack w earlier) later ≡ from_four_facts slack block (four_facts_of slack rate ceiling block w earlier later)

-- two streams that agree on the four facts answer their accepted calls alike
abbrev pub ForgetsAcceptedTwo : Type 0
ForgetsAcceptedTwo =
    (slack rate ceiling block : ℕ) (w w' : World) (earlier earlier' later later' : List Item)
    → Stream slack rate ceiling block w earlier later → Stream slack rate ceiling block w' earlier' later' → PaperBuffers rate ceiling w → PaperBuffers rate ceiling w'
    → four_facts_of slack rate ceiling block w earlier later ≡ four_facts_of slack rate ceiling block w' earlier' later'
    → accepted_answers slack (resumed slack w earlier) later ≡ accepted_answers slack (resumed slack w' earlier') later'
