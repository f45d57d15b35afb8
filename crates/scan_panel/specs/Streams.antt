-- Demand 3 of the profile: its text, at the profile's slack, of the profile's calls.
use Rattle.std.specs.Prelude.{ℕ, ◌≡◌, List, [], ◌∷◌, ◌++◌, true}
use Rattle.scan.specs.State.{World}
use Rattle.scan.specs.Blocks.{held_at}
use Rattle.scan.specs.Steps.{rearm, deed, Response}
use Rattle.scan.specs.Streams.{Item, own, Stream, facts_of, from_these_alone}
use Rattle.scan_handover.specs.Handover.{lead}
use Rattle.scan_handover.specs.Singles.{singly}
use Rattle.scan_handover.specs.InStreams.{items_of, as_responses}
use Rattle.scan_panel.specs.Panel.{panel_slack, panel_table}
use Rattle.scan_panel.specs.Feeds.{Fed, call, run, Answer, says, counts, panel_fed, AllTyped, panel_after, panel_answers}

-- A call as a stream of demand 3 has it: on the stream's own state and buffers; a run stands for single calls, one for each sample that it takes.
abbrev pub items_for : World → Fed → List Item
items_for v (call c) = own c ∷ []
items_for v (run xs first) = items_of v xs first

unfoldable pub items_in : World → List Fed → List Item
items_in v [] = []
items_in v (f ∷ calls) = items_for v f ++ items_in (panel_fed v f).world calls

-- what an answer says of each of these
abbrev pub spelled : World → Fed → Answer → List Response
spelled v f (says r) = r ∷ []
spelled v (call c) (counts n) = []
spelled v (run xs first) (counts n) = as_responses (singly (lead v.scan.geometry (held_at v.scan.near first) first) n)

-- the answers to calls in turn
unfoldable pub spelled_in : World → List Fed → List Answer → List Response
spelled_in v [] told = []
spelled_in v (f ∷ calls) [] = []
spelled_in v (f ∷ calls) (a ∷ told) = spelled v f a ++ spelled_in (panel_fed v f).world calls told

-- the state and buffers from the rearm on
abbrev pub panel_resumed : World → List Fed → World
panel_resumed v earlier = (panel_fed (panel_after v earlier) (call (deed rearm))).world

-- The premises are demand 3's own (`Stream`); samples are of the type f32.
abbrev pub PanelForgets : Type 0
PanelForgets =
    (rate ceiling block : ℕ) (v : World) (earlier later : List Fed) → panel_table rate ceiling ≡ true → AllTyped earlier → AllTyped later
    → let u = panel_resumed v earlier in
    Stream panel_slack rate ceiling block v (items_in v earlier) (items_in u later)
    → spelled_in u later (panel_answers u later) ≡ from_these_alone panel_slack (facts_of panel_slack rate ceiling block v (items_in v earlier) (items_in u later))
