-- Request j, "Fed the same calls from new": where the profile's answers are the full scan's.
--
-- Two scans, one with a slack of `wide` bins and one of `narrow`, are fed the same calls, runs of near samples (request a) among them. A call names samples and indices and no buffer:
-- each world has its own seven buffers, of the lengths that its own slack gives, and every call is handed the state and the buffers as that world's last call left them. So one list of
-- calls serves both. (A refused call on anything else changes nothing and stands in no list.) The laws of one call hold for any two slacks, `narrow` below `wide`; the lists are of the
-- full scan and the profile.
use Rattle.std.specs.Prelude.{ℕ, zero, suc, ◌+◌, ◌-◌, ◌≤◌, ◌<◌, ◌%◌, ◌≡◌, List, [], ◌∷◌, Bool, true, false, not, ltb, length, take}
use Rattle.answers.specs.Pick.{pick, both, either}
use Rattle.folds.specs.Sums.{at}
use Rattle.scan.specs.Bins.{full_slack, geometry_of, envelope_len}
use Rattle.scan.specs.State.{Buffers, World, full}
use Rattle.scan.specs.Calls.{all_lengths, is_uncovered}
use Rattle.scan.specs.Steps.{near, score, rearm, discard, reset, ask, Call, far, deed, scores, making}
use Rattle.scan.specs.declared.Scoring.TheVariants as scoring
use Rattle.scan.specs.declared.Frame.TheVariants as frame
use Rattle.scan_panel.specs.Panel.{panel_slack, panel_table, panel_making}
use Rattle.scan_panel.specs.Feeds.{Fed, call, run, Answer, says, fed, panel_fed, AllTyped, panel_after, panel_answers}

-- ---- a parting

-- the number of the oldest bin that is kept
abbrev pub oldest : ℕ → World → ℕ
oldest slack w = w.scan.far.next - envelope_len slack w.scan.geometry

-- A full frame waits; its window starts before the narrow scan's oldest bin, and ends at the wide scan's oldest bin or after it. A window wholly before that is uncovered on both
-- sides and no parting. (Where the frame starts before bin span, the window's bins are those from 0 on.)
unfoldable pub parting : ℕ → ℕ → World → Bool
parting wide narrow w =
    let g = w.scan.geometry in
    let first = w.scan.near.first in
    both (full g w.scan.near)
    (both (ltb (first - g.span) (oldest narrow w))
    (ltb (oldest wide w) (first + g.frame)))

-- the same in the paper's words: the window holds a bin that the full scan kept and the profile has overwritten
pub record Holds (wide narrow : ℕ) (w : World) : Type 0 where
  pub waits : full w.scan.geometry w.scan.near ≡ true
  pub bin : ℕ
  pub from : w.scan.near.first - w.scan.geometry.span ≤ bin
  pub to : bin < w.scan.near.first + w.scan.geometry.frame
  pub kept : oldest wide w ≤ bin
  pub overwritten : bin < oldest narrow w

-- Exactly where the answers differ: the narrow scan is uncovered and the wide one is not. Each of these is a parting; at the other partings both say uncovered.
unfoldable pub splitting : ℕ → ℕ → World → Bool
splitting wide narrow w = both (full w.scan.geometry w.scan.near) (both (is_uncovered narrow w) (not (is_uncovered wide w)))

-- the call is the scoring of a frame of which the test holds
abbrev pub at_score : (World → Bool) → World → Call → Bool
at_score test w (far xs) = false
at_score test w (deed (near x index)) = false
at_score test w (deed score) = test w
at_score test w (deed rearm) = false
at_score test w (deed discard) = false
at_score test w (deed reset) = false
at_score test w (deed (ask r)) = false

abbrev pub parts : ℕ → ℕ → World → Call → Bool
parts wide narrow = at_score (parting wide narrow)

-- ---- two scans: w is the wide one, v the narrow one

-- the far sides have the same numbers, and each bin that the narrow scan keeps stands in both envelopes
pub record FarAlike (wide narrow : ℕ) (w v : World) : Type 0 where
  pub geometry : v.scan.geometry ≡ w.scan.geometry
  pub far : v.scan.far ≡ w.scan.far
  pub bins : (j : ℕ) → j < w.scan.far.next → oldest narrow w ≤ j
      → at v.buffers.envelope (j % envelope_len narrow w.scan.geometry) ≡ at w.buffers.envelope (j % envelope_len wide w.scan.geometry)

-- and the near sides, the verdicts and the lag sums are the same
pub record Agree (wide narrow : ℕ) (w v : World) : Type 0 where
  pub far_alike : FarAlike wide narrow w v
  pub near : v.scan.near ≡ w.scan.near
  pub verdict : v.scan.verdict ≡ w.scan.verdict
  pub levels : (i : ℕ) → i < w.scan.near.len → at v.buffers.levels i ≡ at w.buffers.levels i
  pub lag_sums : v.buffers.lag_sums ≡ w.buffers.lag_sums

-- ---- lists of calls

-- a frame is scored at which the test holds
abbrev pub parts_at : (World → Bool) → World → Fed → Bool
parts_at test w (call c) = at_score test w c
parts_at test w (run xs first) = false

-- A rearm or a reset, from which the two agree again. `discard_near` is none: it keeps the verdict. (Neither is ever refused here: see `anew_done`.)
abbrev pub anew_call : Call → Bool
anew_call (far xs) = false
anew_call (deed (near x index)) = false
anew_call (deed score) = false
anew_call (deed rearm) = true
anew_call (deed discard) = false
anew_call (deed reset) = true
anew_call (deed (ask r)) = false

abbrev pub anew : Fed → Bool
anew (call c) = anew_call c
anew (run xs first) = false

-- a far push, a rearm or a reset: these are answered alike, parted or not
abbrev pub common_call : Call → Bool
common_call (far xs) = true
common_call (deed (near x index)) = false
common_call (deed score) = false
common_call (deed rearm) = true
common_call (deed discard) = false
common_call (deed reset) = true
common_call (deed (ask r)) = false

abbrev pub common : Fed → Bool
common (call c) = common_call c
common (run xs first) = false

-- the full scan after some calls, and what it answered; of the profile `panel_after` and `panel_answers` say it
unfoldable pub full_after : World → List Fed → World
full_after w [] = w
full_after w (f ∷ calls) = full_after (fed full_slack w f).world calls

unfoldable pub full_answers : World → List Fed → List Answer
full_answers w [] = []
full_answers w (f ∷ calls) = (fed full_slack w f).answer ∷ full_answers (fed full_slack w f).world calls

-- ---- the statement, call by call. `test` is the parting, or the splitting, of the two slacks.

-- `together`: no parting since the makings, or since the last rearm or reset
abbrev pub together_after : (World → Bool) → Bool → World → Fed → Bool
together_after test together w f = either (anew f) (both together (not (parts_at test w f)))

-- together the answers are equal, but at a parting, where the profile says uncovered; apart only the profile's own rules speak, but for calls that are answered alike always
pub record Claim (test : World → Bool) (together : Bool) (w v : World) (f : Fed) : Type 0 where
  pub equal : together ≡ true → parts_at test w f ≡ false → (panel_fed v f).answer ≡ (fed full_slack w f).answer
  pub uncovered : together ≡ true → parts_at test w f ≡ true → (panel_fed v f).answer ≡ says (scores (scoring.Frame frame.Uncovered 0))
  pub always : common f ≡ true → (panel_fed v f).answer ≡ (fed full_slack w f).answer

abbrev pub Claims : (World → Bool) → Bool → World → World → List Fed → Type 0
Claims test together w v [] = Unit {0}
Claims test together w v (f ∷ calls) =
    Claim test together w v f × Claims test (together_after test together w f) (fed full_slack w f).world (panel_fed v f).world calls

-- how many of the calls come before the first parting
unfoldable pub until : (World → Bool) → World → List Fed → ℕ
until test w [] = zero
until test w (f ∷ calls) = pick (parts_at test w f) zero (suc (until test (fed full_slack w f).world calls))

-- ---- the statements

-- the profile allows the settings, and each world is lent buffers of the lengths that its own slack gives
pub record Start (rate ceiling : ℕ) (lent lent' : Buffers) : Type 0 where
  pub allowed : panel_table rate ceiling ≡ true
  pub wide : all_lengths full_slack (geometry_of rate ceiling) lent ≡ true
  pub narrow : all_lengths panel_slack (geometry_of rate ceiling) lent' ≡ true

abbrev pub full_new : ℕ → ℕ → Buffers → World
full_new rate ceiling lent = (making full_slack rate ceiling lent).world

abbrev pub panel_new : ℕ → ℕ → Buffers → World
panel_new rate ceiling lent = (panel_making rate ceiling lent).world

-- from makings with the same allowed settings, and for any calls: equal answers up to the first such frame, uncovered there, and the same again from each rearm and each reset on
abbrev pub AgreesUpTo : (World → Bool) → Type 0
AgreesUpTo test =
    (rate ceiling : ℕ) (lent lent' : Buffers) → Start rate ceiling lent lent' → (calls : List Fed) → AllTyped calls
    → Claims test true (full_new rate ceiling lent) (panel_new rate ceiling lent') calls

-- the paper's sentence
abbrev pub PanelAgrees : Type 0
PanelAgrees = AgreesUpTo (parting full_slack panel_slack)

-- and a stronger one: no more than the frames at which the answers do differ ends the agreement
abbrev pub PanelAgreesExactly : Type 0
PanelAgreesExactly = AgreesUpTo (splitting full_slack panel_slack)

-- the same as lists of answers: from new
abbrev pub AgreesFromNew : Type 0
AgreesFromNew =
    (rate ceiling : ℕ) (lent lent' : Buffers) → Start rate ceiling lent lent' → (calls : List Fed) → AllTyped calls
    → let n = until (parting full_slack panel_slack) (full_new rate ceiling lent) calls in
    take n (panel_answers (panel_new rate ceiling lent') calls) ≡ take n (full_answers (full_new rate ceiling lent) calls)

-- and after any calls, parted or not, and a rearm or a reset
abbrev pub AgreesAnew : Type 0
AgreesAnew =
    (rate ceiling : ℕ) (lent lent' : Buffers) → Start rate ceiling lent lent' → (earlier later : List Fed) (f : Fed) → anew f ≡ true → AllTyped earlier → AllTyped later
    → let w = (fed full_slack (full_after (full_new rate ceiling lent) earlier) f).world in
    let v = (panel_fed (panel_after (panel_new rate ceiling lent') earlier) f).world in
    let n = until (parting full_slack panel_slack) w later in
    take n (panel_answers v later) ≡ take n (full_answers w later)

-- at that frame: after calls without a parting, the scoring of one is answered `uncovered` by the profile
abbrev pub UncoveredThere : Type 0
UncoveredThere =
    (rate ceiling : ℕ) (lent lent' : Buffers) → Start rate ceiling lent lent' → (calls : List Fed) → AllTyped calls
    → until (parting full_slack panel_slack) (full_new rate ceiling lent) calls ≡ length calls
    → parting full_slack panel_slack (full_after (full_new rate ceiling lent) calls) ≡ true
    → (panel_fed (panel_after (panel_new rate ceiling lent') calls) (call (deed score))).answer ≡ says (scores (scoring.Frame frame.Uncovered 0))

-- no weaker test than the splitting will do: after calls without a split the scoring of one gives two different answers
abbrev pub DiffersThere : Type 0
DiffersThere =
    (rate ceiling : ℕ) (lent lent' : Buffers) → Start rate ceiling lent lent' → (calls : List Fed) → AllTyped calls
    → until (splitting full_slack panel_slack) (full_new rate ceiling lent) calls ≡ length calls
    → let w = full_after (full_new rate ceiling lent) calls in
    let v = panel_after (panel_new rate ceiling lent') calls in
    splitting full_slack panel_slack w ≡ true → (panel_fed v (call (deed score))).answer ≡ (fed full_slack w (call (deed score))).answer → ⊥
