-- Demand 3 of the code: the premises of `Stream` (scan's Streams), the facts and the answers, all said of what the functions returned.
use Rattle.std.specs.Prelude.{ℕ, ◌+◌, ◌*◌, ◌≤◌, ◌≡◌, List, [], ◌∷◌, ◌++◌, Bool, false, T, eqb, length, drop, Float}
use Rattle.std.specs.Float.{binary32}
use Rattle.std.specs.Float.Ieee.{fits}
use Rattle.answers.specs.Numbers.{next_long_count}
use Rattle.answers.specs.Pick.{pick}
use Rattle.answers.specs.Refusals.{none}
use Rattle.scan.specs.Bins.{full_slack}
use Rattle.scan.specs.State.{World}
use Rattle.scan.specs.Steps.{Call, Response, near, score, rearm, discard, reset, ask, far, deed, refusal_of, called, changes, takes, scores, reports_region, reports_flag, reports_count, reports_level, reports_samples}
use Rattle.scan.specs.Streams.{AllF32, begins, CleanCall, Facts, clean_call, first_known, early_of, late_of, lengths_of, as_call, clean_world, from_these_alone}
use Rattle.scan.specs.FourFacts.{AcceptedCall, accepted_call, FourFacts, from_four_facts, PaperBuffers}
use Rattle.scan_runs.specs.Runs.{passes, ran}
use Rattle.scan_runs.proofs.push_near_run.Kinds as push-near-run-kinds
use Rattle.scan_runs.proofs.push_near_run.Reads as push-near-run-reads
use Rattle.scan_forgets.specs.Happened.{Return, Answered, one, by_rules, Happened, InTurn, Begun}

-- ---- what the calls keep to

-- samples are of the type f32, and no reset was accepted
abbrev pub FairReply : Call → Response → Type 0
FairReply (far xs) r = AllF32 xs
FairReply (deed (near x index)) r = T (fits binary32 x)
FairReply (deed score) r = Unit {0}
FairReply (deed rearm) r = Unit {0}
FairReply (deed discard) r = Unit {0}
FairReply (deed reset) r = refusal_of r ≡ none → ⊥
FairReply (deed (ask q)) r = Unit {0}

abbrev pub FairRun : List Answered → Type 0
FairRun [] = Unit {0}
FairRun (a ∷ rest) = FairReply a.call a.response × FairRun rest

-- a near sample that was accepted and begins a frame carries an index of at least (block + span) x decimation
abbrev pub LateReply : ℕ → World → Call → Response → Type 0
LateReply block w (far xs) r = Unit {0}
LateReply block w (deed (near x index)) r = refusal_of r ≡ none → T (begins w.scan index) → (block + w.scan.geometry.span) * w.scan.geometry.decimation ≤ index
LateReply block w (deed score) r = Unit {0}
LateReply block w (deed rearm) r = Unit {0}
LateReply block w (deed discard) r = Unit {0}
LateReply block w (deed reset) r = Unit {0}
LateReply block w (deed (ask q)) r = Unit {0}

abbrev pub LateRun : ℕ → List Answered → Type 0
LateRun block [] = Unit {0}
LateRun block (a ∷ rest) = LateReply block a.handed a.call a.response × LateRun block rest

-- ---- a run of the code with a rearm

-- A stream began with w; calls in turn led to e; a rearm that was not refused led to v; and there are the calls since.
pub record Ran (rate ceiling block : ℕ) (w e v u : World) (earlier later : List Answered) : Type 0 where
  pub begun : Begun rate ceiling w
  pub before : InTurn w earlier e
  pub fair : FairRun earlier
  pub answer : Response
  pub rearm : Happened e (one e (deed rearm) answer) v
  pub rearms : refusal_of answer ≡ none
  pub since : InTurn v later u
  pub fair_since : FairRun later
  pub late : LateRun block later

-- ---- its answers and its facts

unfoldable pub answers_in : List Answered → List Response
answers_in [] = []
answers_in (a ∷ rest) = a.response ∷ answers_in rest

-- the far samples that were accepted, in order
abbrev pub brought_in : Call → Response → List Float
brought_in (far xs) r = pick (eqb (refusal_of r) none) xs []
brought_in (deed d) r = []

unfoldable pub heard_in : List Answered → List Float
heard_in [] = []
heard_in (a ∷ rest) = brought_in a.call a.response ++ heard_in rest

-- the calls, with nothing left of the far samples before the first known one but their number and whether they are finite
unfoldable pub cleaned_in : ℕ → List Answered → List CleanCall
cleaned_in known [] = []
cleaned_in known (a ∷ rest) = clean_call known a.handed a.call ∷ cleaned_in known rest

abbrev pub facts_in : ℕ → ℕ → ℕ → World → List Answered → List Answered → Facts
facts_in rate ceiling block w earlier later =
    record {
      rate = rate;
      ceiling = ceiling;
      lengths = lengths_of w.buffers;
      early = early_of (first_known rate block) 0 (heard_in earlier);
      late = late_of (first_known rate block) 0 (heard_in earlier);
      calls = cleaned_in (first_known rate block) later;
    }

-- the calls that were accepted, and their answers
unfoldable pub accepted_in : List Answered → List AcceptedCall
accepted_in [] = []
accepted_in (a ∷ rest) = pick (eqb (refusal_of a.response) none) (accepted_call a.call ∷ accepted_in rest) (accepted_in rest)

unfoldable pub accepted_answers_in : List Answered → List Response
accepted_answers_in [] = []
accepted_answers_in (a ∷ rest) = pick (eqb (refusal_of a.response) none) (a.response ∷ accepted_answers_in rest) (accepted_answers_in rest)

abbrev pub four_facts_in : ℕ → ℕ → ℕ → List Answered → List Answered → FourFacts
four_facts_in rate ceiling block earlier later =
    record {
      rate = rate;
      ceiling = ceiling;
      known = drop (first_known rate block) (heard_in earlier ++ heard_in later);
      count = length (heard_in earlier);
      calls = accepted_in later;
    }

-- ---- how many samples of a run pass: what a run answers

abbrev pub passing : Response → Bool
passing (takes t) = passes t
passing (changes c) = false
passing (scores f) = false
passing (reports_region r) = false
passing (reports_flag r) = false
passing (reports_count r) = false
passing (reports_level r) = false
passing (reports_samples r) = false

-- the samples that a run tries, each as a call of its own: up to the first that does not pass, and that one too
unfoldable pub tried : World → List Float → ℕ → List Call
tried w [] index = []
tried w (x ∷ xs) index =
    let s = called full_slack w (deed (near x index)) in
    deed (near x index) ∷ pick (passing s.response) (tried s.world xs (next_long_count index)) []

-- the rules' state and buffers after these facts
unfoldable pub clean_after : World → List CleanCall → World
clean_after w [] = w
clean_after w (c ∷ calls) = clean_after (called full_slack w (as_call c)).world calls

-- so many samples of a run pass then
abbrev pub passed_after : Facts → List Float → ℕ → ℕ
passed_after f xs index = let w = clean_after (clean_world full_slack f) f.calls in (ran w.scan w.buffers.levels xs index).passed

-- ---- the statements

-- The answers that the functions returned since the rearm are what the rules give from the allowed facts alone.
abbrev pub CodeForgets : Type 0
CodeForgets =
    (rate ceiling block : ℕ) (w e v u : World) (earlier later : List Answered) → Ran rate ceiling block w e v u earlier later
    → answers_in later ≡ from_these_alone full_slack (facts_in rate ceiling block w earlier later)

-- Of the calls that were accepted, with buffers of the paper's lengths: from the customer's four facts alone.
abbrev pub CodeForgetsAccepted : Type 0
CodeForgetsAccepted =
    (rate ceiling block : ℕ) (w e v u : World) (earlier later : List Answered) → Ran rate ceiling block w e v u earlier later → PaperBuffers rate ceiling w
    → accepted_answers_in later ≡ from_four_facts full_slack block (four_facts_in rate ceiling block earlier later)

-- And a run of near samples on what the calls since the rearm left: how many pass is what the rules give from the facts of these calls alone.
abbrev pub CodeForgetsPassed : Type 0
CodeForgetsPassed =
    (rate ceiling block : ℕ) (w e v u : World) (earlier later : List Answered) → Ran rate ceiling block w e v u earlier later
    → (f : Return 2 push-near-run-kinds.ps push-near-run-kinds.r push-near-run-reads.Post) → u.scan ≡ f.given.0 → u.buffers.levels ≡ f.given.1.0.now
    → let xs = f.given.1.1.0.now in
    let first = f.given.1.1.1.0 in
    FairRun (by_rules u (tried u xs first)) → LateRun block (by_rules u (tried u xs first)) → f.result.passed ≡ passed_after (facts_in rate ceiling block w earlier later) xs first
