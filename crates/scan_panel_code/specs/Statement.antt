-- Request j of the code: demand 3 of the profile's functions, and where their answers are those of the full scan's.
use Rattle.std.specs.Prelude.{ℕ, ◌≡◌, List, true, length, take}
use Rattle.answers.specs.Refusals.{none}
use Rattle.scan.specs.Bins.{full_slack}
use Rattle.scan.specs.State.{Buffers, World}
use Rattle.scan.specs.Steps.{Response, score, rearm, reset, deed, refusal_of, scores}
use Rattle.scan.specs.Streams.{Stream, facts_of, from_these_alone}
use Rattle.scan.specs.declared.Scoring.TheVariants as scoring
use Rattle.scan.specs.declared.Frame.TheVariants as frame
use Rattle.scan_panel.specs.Panel.{panel_slack}
use Rattle.scan_panel.specs.Feeds.{Fed, call, Answer, says, AllTyped}
use Rattle.scan_panel.specs.Streams.{items_in, spelled_in}
use Rattle.scan_panel_agrees.specs.Agreement.{parting, anew, until, Start}
use Rattle.scan_panel_code.specs.Happened.{PanelHappened, FullHappened, PanelMade, FullMade, PanelInTurn, FullInTurn}

-- ---- demand 3

-- a making with these settings was not refused, or a reset of a scan that has them
pub data PanelBegun (rate ceiling : ℕ) : World → Type 0 where
  made : {b : Buffers} {r : Response} {v : World} → PanelMade rate ceiling b r v → refusal_of r ≡ none → PanelBegun rate ceiling v
  afresh : {w v : World} {r : Response} → w.scan.geometry.rate ≡ rate → w.scan.geometry.ceiling ≡ ceiling → PanelHappened w (call (deed reset)) (says r) v → refusal_of r ≡ none → PanelBegun rate ceiling v

-- A stream began with v; calls in turn led to e; a rearm led to u; and there are the calls since. `stream` has demand 3's premises, of the items that these calls
-- stand for: no accepted reset, and late frames since the rearm.
pub record PanelRan (rate ceiling block : ℕ) (v e u x : World) (earlier later : List Fed) (told since : List Answer) : Type 0 where
  pub begun : PanelBegun rate ceiling v
  pub before : PanelInTurn v earlier told e
  pub answer : Response
  pub rearm : PanelHappened e (call (deed rearm)) (says answer) u
  pub after : PanelInTurn u later since x
  pub typed : AllTyped earlier
  pub typed_since : AllTyped later
  pub stream : Stream panel_slack rate ceiling block v (items_in v earlier) (items_in u later)

-- The answers that the functions returned since the rearm are what the rules give from the allowed facts alone, with the profile's envelope length.
abbrev pub PanelCodeForgets : Type 0
PanelCodeForgets =
    (rate ceiling block : ℕ) (v e u x : World) (earlier later : List Fed) (told since : List Answer) → PanelRan rate ceiling block v e u x earlier later told since
    → spelled_in u later since ≡ from_these_alone panel_slack (facts_of panel_slack rate ceiling block v (items_in v earlier) (items_in u later))

-- ---- agreement

-- Two programs, one that calls the full scan and one that calls the profile: each makes its scan with the same allowed settings and buffers of its own lengths, and is then fed the same
-- calls in turn. w and v are what the makings left, w' and v' what the calls led to.
pub record BothFed (rate ceiling : ℕ) (lent lent' : Buffers) (w v w' v' : World) (calls : List Fed) (told told' : List Answer) : Type 0 where
  pub start : Start rate ceiling lent lent'
  pub answer : Response
  pub full : FullMade rate ceiling lent answer w
  pub answer' : Response
  pub panel : PanelMade rate ceiling lent' answer' v
  pub full_calls : FullInTurn w calls told w'
  pub panel_calls : PanelInTurn v calls told' v'
  pub typed : AllTyped calls

-- the answers that the functions returned are equal up to the first parting
abbrev pub CodeAgrees : Type 0
CodeAgrees =
    (rate ceiling : ℕ) (lent lent' : Buffers) (w v w' v' : World) (calls : List Fed) (told told' : List Answer) → BothFed rate ceiling lent lent' w v w' v' calls told told'
    → let n = until (parting full_slack panel_slack) w calls in
    take n told' ≡ take n told

-- at it the profile answers `uncovered`
abbrev pub CodeUncovered : Type 0
CodeUncovered =
    (rate ceiling : ℕ) (lent lent' : Buffers) (w v w' v' : World) (calls : List Fed) (told told' : List Answer) → BothFed rate ceiling lent lent' w v w' v' calls told told'
    → until (parting full_slack panel_slack) w calls ≡ length calls → parting full_slack panel_slack w' ≡ true
    → (a : Answer) (x : World) → PanelHappened v' (call (deed score)) a x → a ≡ says (scores (scoring.Frame frame.Uncovered 0))

-- after any calls, parted or not, and a rearm or a reset on both, they are equal again up to the next parting
abbrev pub CodeAgreesAnew : Type 0
CodeAgreesAnew =
    (rate ceiling : ℕ) (lent lent' : Buffers) (w v w' v' : World) (calls : List Fed) (told told' : List Answer) → BothFed rate ceiling lent lent' w v w' v' calls told told'
    → (f : Fed) (a a' : Answer) (x y x' y' : World) (later : List Fed) (since since' : List Answer) → anew f ≡ true → FullHappened w' f a x → PanelHappened v' f a' y
    → FullInTurn x later since x' → PanelInTurn y later since' y' → AllTyped later
    → let n = until (parting full_slack panel_slack) x later in
    take n since' ≡ take n since
