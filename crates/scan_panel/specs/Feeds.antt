-- What a host feeds a scan: its calls, and runs of near samples (request a) among them. A call names samples and indices and no buffer: each is handed the state and the buffers as the
-- last call left them.
use Rattle.std.specs.Prelude.{ℕ, List, [], ◌∷◌, T, Float}
use Rattle.std.specs.Float.{binary32}
use Rattle.std.specs.Float.Ieee.{fits}
use Rattle.scan.specs.State.{World}
use Rattle.scan.specs.Steps.{near, score, rearm, discard, reset, ask, Call, far, deed, Response, Step, with_levels, called}
use Rattle.scan.specs.Streams.{AllF32}
use Rattle.scan_handover.specs.Handover.{NearRun, handed}
use Rattle.scan_handover.specs.declared.RunTaking.{RunTaking}
use Rattle.scan_panel.specs.Panel.{panel_handed, panel_called}

pub data Fed : Type 0 where
  call : Call → Fed
  run : List Float → ℕ → Fed

pub data Answer : Type 0 where
  says : Response → Answer
  counts : RunTaking → Answer

-- what is answered, and the state and buffers after it
pub record Feeding : Type 0 where
  pub answer : Answer
  pub world : World

abbrev pub stepped : Step → Feeding
stepped s = record { answer = says s.response; world = s.world }

abbrev pub ran : World → NearRun → Feeding
ran w r = record { answer = counts r.handed.answer; world = record { scan = r.handed.scan; buffers = with_levels w.buffers r.levels } }

-- by the scan, with an envelope slack of so many bins
unfoldable pub fed : ℕ → World → Fed → Feeding
fed slack w (call c) = stepped (called slack w c)
fed slack w (run xs first) = ran w (handed w.scan w.buffers.levels xs first)

-- by the profile
unfoldable pub panel_fed : World → Fed → Feeding
panel_fed v (call c) = stepped (panel_called v c)
panel_fed v (run xs first) = ran v (panel_handed v.scan v.buffers.levels xs first)

-- samples are of the type f32
abbrev pub TypedCall : Call → Type 0
TypedCall (far xs) = AllF32 xs
TypedCall (deed (near x index)) = T (fits binary32 x)
TypedCall (deed score) = Unit {0}
TypedCall (deed rearm) = Unit {0}
TypedCall (deed discard) = Unit {0}
TypedCall (deed reset) = Unit {0}
TypedCall (deed (ask r)) = Unit {0}

abbrev pub Typed : Fed → Type 0
Typed (call c) = TypedCall c
Typed (run xs first) = AllF32 xs

abbrev pub AllTyped : List Fed → Type 0
AllTyped [] = Unit {0}
AllTyped (f ∷ calls) = Typed f × AllTyped calls

-- ---- calls in turn

-- a panel's scan after them, and what it answered
unfoldable pub panel_after : World → List Fed → World
panel_after v [] = v
panel_after v (f ∷ calls) = panel_after (panel_fed v f).world calls

unfoldable pub panel_answers : World → List Fed → List Answer
panel_answers v [] = []
panel_answers v (f ∷ calls) = (panel_fed v f).answer ∷ panel_answers (panel_fed v f).world calls
