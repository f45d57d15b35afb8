-- Request m: its sentences about a history, and its statements. A sentence names a part of the history and says what does not occur in it, as the paper does,
-- so that nobody need trust the recursion of a word. The statements say that each word means its sentence, and exactly when a cycle gets which verdict.
use Rattle.std.specs.Prelude.{ℕ, ◌+◌, ◌≤◌, ◌≡◌, Bool, true, false, not, ◌↔◌, [], ◌∷◌, ◌++◌, length, Some}
use Rattle.std.specs.Prelude as option
use Rattle.answers.specs.Numbers.{allowed_rate, apart}
use Rattle.answers.specs.Pick.{pick, either}
use Rattle.units.specs.declared.Samples.{Samples}
use Rattle.tracker.specs.declared.Outcome.{Outcome}
use Rattle.tracker.specs.declared.Outcome.TheVariants.{Candidate, Unconfident}
use Rattle.tracker.specs.declared.Trigger.TheVariants.{Edge, Lost, Seam}
use Rattle.tracker.specs.declared.Verdict.{Verdict}
use Rattle.tracker.specs.declared.Verdict.TheVariants.{Move, Reacquire}
use Rattle.tracker.specs.declared.Tracker.{Tracker}
use Rattle.tracker.specs.declared.Cycled.{Cycled}
use Rattle.tracker.specs.Tracker.{bands_of}
use Rattle.tracker.specs.Cycle.{cycled}
use Rattle.tracker_history.specs.Histories.{Happening, cycle, discontinuity, History, outside, unconfident_run, edges_since, pending_in, moves, inside, settles, suspicion, tracker_after, verdict_after, Accepted, InRange}

-- ---- one happening, and what came before it

abbrev pub Test : Type 0
Test = History → Happening → Bool

-- Makes a test of cycles into a test of happenings; every discontinuity gets the answer `atSeam`.
abbrev pub on_cycles : Bool → (History → Samples → Outcome → Bool) → Test
on_cycles atSeam test h discontinuity = atSeam
on_cycles atSeam test h (cycle a o) = test h a o

abbrev pub is_unconfident : Outcome → Bool
is_unconfident Unconfident = true
is_unconfident (Candidate d i) = false

abbrev pub is_edge : Outcome → Bool
is_edge Unconfident = false
is_edge (Candidate d i) = not i

abbrev pub is_interior : Outcome → Bool
is_interior Unconfident = false
is_interior (Candidate d i) = i

-- Tells whether the cycle found an "interior candidate outside the bands".
abbrev pub is_outside : ℕ → Samples → Outcome → Bool
is_outside rate a Unconfident = false
is_outside rate a (Candidate d i) = pick i (outside rate a d) false

-- ---- a part of a history

-- None of the later happenings passes the test, which sees with each all that came before it.
abbrev pub None : Test → History → History → Type 0
None test [] earlier = Unit {0}
None test (x ∷ later) earlier = (test (later ++ earlier) x ≡ false) × None test later earlier

-- The latest happening passes the test. An empty history has no latest.
abbrev pub LatestPasses : Test → History → Type 0
LatestPasses test [] = Unit {0}
LatestPasses test (x ∷ h) = test h x ≡ true

-- Splits off what came "since the last" happening that passes the test, or all of the history "if none did".
pub record SinceLast (test : Test) (h : History) : Type 0 where
  pub since : History
  pub earlier : History
  pub parts : h ≡ since ++ earlier
  pub none_since : None test since earlier
  pub last : LatestPasses test earlier

-- ---- the sentences

-- Anything but an unconfident cycle breaks the run, a discontinuity too.
abbrev pub breaks_run : Test
breaks_run = on_cycles true (λ h a o. not (is_unconfident o))

-- "ends a run of at least" so many "unconfident cycles with no discontinuity inside it"
pub record EndsRun (least : ℕ) (h : History) : Type 0 where
  pub run : History
  pub earlier : History
  pub parts : h ≡ run ++ earlier
  pub unbroken : None breaks_run run earlier
  pub long : least ≤ length run

-- a "cycle that moved or found an interior candidate inside the bands"
abbrev pub lifts_suspicion : ℕ → Test
lifts_suspicion rate = on_cycles false (settles rate)

-- Tells whether a discontinuity is among the happenings.
unfoldable pub seam_among : History → Bool
seam_among [] = false
seam_among (cycle a o ∷ h) = seam_among h
seam_among (discontinuity ∷ h) = true

-- "a discontinuity came after the last cycle that moved or found an interior candidate inside the bands, or at all if none did"
pub record Suspect (rate : ℕ) (h : History) : Type 0 where
  pub after : SinceLast (lifts_suspicion rate) h
  pub came : seam_among after.since ≡ true

-- an "interior candidate or discontinuity"
abbrev pub clears_edges : Test
clears_edges = on_cycles true (λ h a o. is_interior o)

-- Counts the edge candidates among the happenings, whatever else is there.
unfoldable pub edges_among : History → ℕ
edges_among [] = 0
edges_among (cycle a o ∷ h) = pick (is_edge o) 1 0 + edges_among h
edges_among (discontinuity ∷ h) = edges_among h

-- "at least" so many edge candidates "have come since the last interior candidate or discontinuity"
pub record EdgesCame (least : ℕ) (h : History) : Type 0 where
  pub after : SinceLast clears_edges h
  pub came : least ≤ edges_among after.since

-- Tells what may not have come since the candidate whose delay is pending: another "interior candidate outside the bands", since it is the "latest"; a "move"; an "edge candidate,
-- candidate inside the bands or discontinuity"
abbrev pub clears_pending : ℕ → Test
clears_pending rate =
    on_cycles true (λ h a o. either (is_outside rate a o) (either (moves rate h a o) (either (is_edge o) (inside rate a o))))

-- "that of the latest earlier interior candidate outside the bands, with no move then or since and no edge candidate, candidate inside the bands or discontinuity
-- since"
pub record Pending (rate : ℕ) (h : History) (delay : Samples) : Type 0 where
  pub since : History
  pub alignment : Samples
  pub earlier : History
  pub parts : h ≡ since ++ (cycle alignment (Candidate delay true) ∷ earlier)
  pub outer : outside rate alignment delay ≡ true
  pub no_move_then : moves rate earlier alignment (Candidate delay true) ≡ false
  pub none_since : None (clears_pending rate) since (cycle alignment (Candidate delay true) ∷ earlier)

-- "the candidate is interior, outside the bands and within the agreement distance of a pending delay"
pub record Confirms (rate : ℕ) (h : History) (a : Samples) (o : Outcome) : Type 0 where
  pub delay : Samples
  pub interior : o ≡ Candidate delay true
  pub outer : outside rate a delay ≡ true
  pub waiting : Samples
  pub pending : Pending rate h waiting
  pub near : apart delay.0 waiting.0 ≤ (bands_of rate).agree

-- ---- each word is its sentence

abbrev pub RunReads : Type 0
RunReads = (least : ℕ) (h : History) → (least ≤ unconfident_run h) ↔ EndsRun least h

abbrev pub SuspicionReads : Type 0
SuspicionReads = (rate : ℕ) (h : History) → (suspicion rate h ≡ true) ↔ Suspect rate h

abbrev pub EdgesRead : Type 0
EdgesRead = (least : ℕ) (h : History) → (least ≤ edges_since h) ↔ EdgesCame least h

abbrev pub PendingReads : Type 0
PendingReads = (rate : ℕ) (h : History) (delay : Samples) → (pending_in rate h ≡ Some delay) ↔ Pending rate h delay

abbrev pub MovesRead : Type 0
MovesRead = (rate : ℕ) (h : History) (a : Samples) (o : Outcome) → (moves rate h a o ≡ true) ↔ Confirms rate h a o

-- The history itself shows whether it is accepted: the rate is allowed, and the numbers are below 2^62.
abbrev pub AcceptedReads : Type 0
AcceptedReads = (rate : ℕ) (h : History) → Accepted rate h ↔ ((allowed_rate rate ≡ true) × InRange h)

-- ---- the verdicts by the words, on every accepted cycle after every accepted history

abbrev pub Exactly : (Verdict → Type 0) → (ℕ → History → Samples → Outcome → Type 0) → Type 0
Exactly says when =
    (rate : ℕ) (h : History) (a : Samples) (o : Outcome) → Accepted rate (cycle a o ∷ h) → says (verdict_after rate h a o) ↔ when rate h a o

-- "`lost` is the verdict exactly when the present cycle ends a run of at least eight unconfident cycles with no discontinuity inside it and suspicion is off". The run counts
-- the present cycle; suspicion is that of the history before it, which an unconfident cycle leaves as it is
abbrev pub LostWhen : ℕ → History → Samples → Outcome → Type 0
LostWhen rate h a o = (8 ≤ unconfident_run (cycle a o ∷ h)) × (suspicion rate h ≡ false)

abbrev pub LostExactly : Type 0
LostExactly = Exactly (λ v. v ≡ Reacquire Lost) LostWhen

-- "`seam` the same with four and suspicion on"
abbrev pub SeamWhen : ℕ → History → Samples → Outcome → Type 0
SeamWhen rate h a o = (4 ≤ unconfident_run (cycle a o ∷ h)) × (suspicion rate h ≡ true)

abbrev pub SeamExactly : Type 0
SeamExactly = Exactly (λ v. v ≡ Reacquire Seam) SeamWhen

-- "`edge` is the verdict exactly when the present cycle is an edge candidate and at least three have come since the last interior candidate or discontinuity": the
-- present one is among them
abbrev pub EdgeWhen : ℕ → History → Samples → Outcome → Type 0
EdgeWhen rate h a o = (is_edge o ≡ true) × (3 ≤ edges_since (cycle a o ∷ h))

abbrev pub EdgeExactly : Type 0
EdgeExactly = Exactly (λ v. v ≡ Reacquire Edge) EdgeWhen

abbrev pub IsMove : Verdict → Type 0
IsMove v = (to : Samples) × (v ≡ Move to)

-- "A move is the verdict exactly when the candidate is interior, outside the bands and within the agreement distance of a pending delay"
abbrev pub MoveExactly : Type 0
MoveExactly = Exactly IsMove (λ rate h a o. moves rate h a o ≡ true)

-- "it clears pending and the contradiction run, and its target never exceeds the candidate"
pub record Moved (o : Outcome) (to : Samples) (next : Tracker) : Type 0 where
  pub pending : next.pending ≡ option.None
  pub run : next.jumps ≡ 0
  pub early : (d : Samples) → o ≡ Candidate d true → to.0 ≤ d.0

abbrev pub MoveLeaves : Type 0
MoveLeaves =
    (rate : ℕ) (h : History) (a : Samples) (o : Outcome) → Accepted rate (cycle a o ∷ h) → (to : Samples) → verdict_after rate h a o ≡ Move to
    → Moved o to (tracker_after rate (cycle a o ∷ h))

-- ---- the verdicts by the sentences

-- Explains what a cycle gave by the history before it.
pub record Explained (rate : ℕ) (h : History) (a : Samples) (o : Outcome) (gave : Cycled) : Type 0 where
  pub lost : (gave.verdict ≡ Reacquire Lost) ↔ (EndsRun 8 (cycle a o ∷ h) × (Suspect rate h → ⊥))
  pub seam : (gave.verdict ≡ Reacquire Seam) ↔ (EndsRun 4 (cycle a o ∷ h) × Suspect rate h)
  pub edge : (gave.verdict ≡ Reacquire Edge) ↔ ((is_edge o ≡ true) × EdgesCame 3 (cycle a o ∷ h))
  pub move : IsMove gave.verdict ↔ Confirms rate h a o
  pub leaves : (to : Samples) → gave.verdict ≡ Move to → Moved o to gave.tracker

abbrev pub AllExplained : Type 0
AllExplained = (rate : ℕ) (h : History) (a : Samples) (o : Outcome) → Accepted rate (cycle a o ∷ h) → Explained rate h a o (cycled (tracker_after rate h) a o)

-- "moved", said of an earlier cycle, means that its verdict was a move
abbrev pub MovedThen : Type 0
MovedThen =
    (rate : ℕ) (since : History) (a : Samples) (o : Outcome) (earlier : History) → Accepted rate (since ++ (cycle a o ∷ earlier))
    → IsMove (verdict_after rate earlier a o) ↔ (moves rate earlier a o ≡ true)
