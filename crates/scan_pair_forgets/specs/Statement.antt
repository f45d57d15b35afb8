-- What each channel of a pair may rely on, said of what the functions returned: the statements of crate scan_pair (Streams), of the calls in turn and of the answers that they returned.
use Rattle.std.specs.Prelude.{ℕ, ◌≡◌, List, [], ◌∷◌}
use Rattle.answers.specs.Refusals.{none}
use Rattle.scan.specs.Bins.{full_slack}
use Rattle.scan.specs.Steps.{Response, refusal_of}
use Rattle.scan.specs.Streams.{from_these_alone}
use Rattle.scan_pair.specs.State.{Side, other, PairWorld}
use Rattle.scan_pair.specs.Streams.{PairItem, own, share, with_answer, answers_to, F32Items, PairFair, without, PairLate, rearm_of, pair_facts_of}
use Rattle.scan_pair_forgets.specs.Happened.{PairAnswered, one_pair, PairHappened, PairInTurn, PairBegun}

-- the calls, as a list of crate scan_pair
unfoldable pub items_in : List PairAnswered → List PairItem
items_in [] = []
items_in (a ∷ rest) = own a.call ∷ items_in rest

-- the answers that were returned to what channel d counts among its own
unfoldable pub answers_of : Side → List PairAnswered → List Response
answers_of d [] = []
answers_of d (a ∷ rest) = with_answer (share d a.call) a.response (answers_of d rest)

-- Independence: from a making or a reset on, the answers that one channel was given are what the rules give to the same calls without those of the other.
abbrev pub CodeApart : Type 0
CodeApart =
    (rate ceiling : ℕ) (d : Side) (w w' : PairWorld) (t : List PairAnswered) → PairBegun rate ceiling w → PairInTurn w t w' → F32Items (items_in t)
    → answers_of d t ≡ answers_to d full_slack w (without (other d) (items_in t))

-- A pair began with w; calls in turn led to e; a rearm of channel d that was not refused led to v; and there are the calls since.
pub record PairRan (d : Side) (rate ceiling block : ℕ) (w e v u : PairWorld) (earlier later : List PairAnswered) : Type 0 where
  pub begun : PairBegun rate ceiling w
  pub before : PairInTurn w earlier e
  pub fair : PairFair full_slack w (items_in earlier)
  pub answer : Response
  pub rearm : PairHappened e (one_pair e (rearm_of d) answer) v
  pub rearms : refusal_of answer ≡ none
  pub since : PairInTurn v later u
  pub fair_since : PairFair full_slack v (items_in later)
  pub late : PairLate d full_slack block v (items_in later)

-- Demand 3 for each channel by itself: the answers that it was given since its rearm are what the rules give from its facts alone, the other's calls not counting among its own.
abbrev pub PairCodeForgets : Type 0
PairCodeForgets =
    (d : Side) (rate ceiling block : ℕ) (w e v u : PairWorld) (earlier later : List PairAnswered) → PairRan d rate ceiling block w e v u earlier later
    → answers_of d later ≡ from_these_alone full_slack (pair_facts_of d full_slack rate ceiling block w (items_in earlier) (items_in later))
