-- A recording made of two sounds: what was played is its far side, what was heard its near side.
use Rattle.std.specs.Prelude.{ℕ, zero, suc, ◌+◌, ◌-◌, ◌/◌, min, Bool, true, false, List, [], ◌∷◌, ◌++◌, ltb, leb, eqb, Result, Ok, Err}
use Rattle.answers.specs.Pick.{pick, both, either}
use Rattle.answers.specs.Numbers.{limit, allowed_rate, allowed_ceiling}
use Rattle.recording.specs.Bytes.{bytes}
use Rattle.recording.specs.Recording.{header_bytes, event_bytes}
use Rattle.recording.specs.Samples.{used_up}
use Rattle.recording.specs.declared.Form.{Form}
use Rattle.recording.specs.declared.Form.TheVariants.{Plain, Floats, Shorts}
use Rattle.recording.specs.declared.Header.{Header}
use Rattle.recording.specs.declared.Used.{Used}
use Rattle.recording.specs.declared.Event.TheVariants.{Far, Near}
use Rattle.recording_convert.specs.Whole.{Recording}
use Rattle.wav.specs.declared.Kind.{Kind}
use Rattle.wav.specs.declared.Kind.TheVariants.{Short, Single}
use Rattle.wav.specs.declared.Sound.{Sound}
use Rattle.recording_make.specs.declared.Plan.{Plan}
use Rattle.recording_make.specs.declared.Misfit.{Misfit}
use Rattle.recording_make.specs.declared.Misfit.TheVariants.{OtherKinds, OtherRates, OtherCeiling, OtherStart}
use Rattle.recording_make.specs.declared.Step.{Step}
use Rattle.recording_make.specs.declared.Next.{Next}
use Rattle.recording_make.specs.declared.Next.TheVariants.{Played, Heard, Over}

-- ---- the header

-- Samples of 16 bits stay what they are, and so do floats.
abbrev pub form_of : Kind → Form
form_of Short = Shorts
form_of Single = Plain

-- An event has the samples of 10 ms. The last one of a side may have fewer.
abbrev pub piece_of : ℕ → ℕ
piece_of rate = rate / 100

-- Counts the events of a side that has so many samples.
abbrev pub events_of : ℕ → ℕ → ℕ
events_of piece samples = (samples + (piece - 1)) / piece

-- Near sample k has index start + k: near begins where far sample `start` is played.
abbrev pub plan_of : Form → ℕ → ℕ → ℕ → ℕ → ℕ → Plan
plan_of form rate ceiling far near start =
    record {
      header =
          record {
            form = form;
            rate = rate;
            ceiling = ceiling;
            events = events_of (piece_of rate) far + events_of (piece_of rate) near;
            far = far;
            near = near;
          };
      start = start;
    }

-- Both sounds are of one kind.
abbrev pub same_kind : Kind → Kind → Bool
same_kind Short Short = true
same_kind Short Single = false
same_kind Single Short = false
same_kind Single Single = true

-- A rate of the table has at least 80 samples in a piece and no more than an event may have; no index passes the limit.
unfoldable pub fitting : Plan → Bool
fitting p = both (allowed_rate p.header.rate) (leb (p.start + p.header.near) limit)

-- Kinds and rates must be the same, rate and ceiling of the table, and the indices within the limit.
unfoldable pub planned : Sound → Sound → ℕ → ℕ → Result Plan Misfit
planned far near ceiling start =
    let p = plan_of (form_of far.kind) far.rate ceiling far.frames near.frames start in
    pick (same_kind far.kind near.kind) (
    pick (both (eqb far.rate near.rate) (allowed_rate far.rate)) (
    pick (allowed_ceiling ceiling) (
    pick (leb (start + near.frames) limit) (Ok p)
    (Err OtherStart)) (Err OtherCeiling)) (Err OtherRates)) (Err OtherKinds)

-- ---- the events

-- The next piece of a side of which so many samples are used.
abbrev pub piece_from : ℕ → ℕ → ℕ → ℕ
piece_from rate samples used = min (piece_of rate) (samples - used)

-- Far comes before near. A side that is longer goes on alone.
unfoldable pub fars_turn : Header → Used → Bool
fars_turn h u = both (ltb u.far h.far) (either (leb u.far u.near) (leb h.near u.near))

abbrev pub nears_turn : Header → Used → Bool
nears_turn h u = ltb u.near h.near

abbrev pub step_with : Next → ℕ → ℕ → Step
step_with next far near = record { next = next; used = used_up far near }

-- Gives the event behind those that have used so many samples, and what is used behind it.
unfoldable pub step_of : Plan → Used → Step
step_of p u =
    let h = p.header in
    let played = piece_from h.rate h.far u.far in
    let heard = piece_from h.rate h.near u.near in
    pick (fitting p) (
    pick (fars_turn h u) (step_with (Played played) (u.far + played) u.near) (
    pick (nears_turn h u) (step_with (Heard heard (p.start + u.near)) u.far (u.near + heard))
    (step_with Over u.far u.near))) (step_with Over u.far u.near)

-- Gives its bytes: samples that were played are a far event, samples that were heard a near event. Behind the last there is none, and the kind is 0, which no event has.
abbrev pub entry_bytes : Next → List ℕ
entry_bytes (Played count) = event_bytes (Far count)
entry_bytes (Heard count first) = event_bytes (Near count first)
entry_bytes Over = bytes 16 0

-- Gives the bytes of the next so many events.
unfoldable pub events_from : Plan → ℕ → Used → List ℕ
events_from p zero u = []
events_from p (suc left) u = entry_bytes (step_of p u).next ++ events_from p left (step_of p u).used

-- ---- all of it, with the bytes of one channel of each sound

unfoldable pub made : Plan → List ℕ → List ℕ → Recording
made p far near =
    record {
      events = header_bytes p.header ++ events_from p p.header.events (used_up 0 0);
      far = far;
      near = near;
    }

-- The sample kind, in the bytes behind a header's first 24.
abbrev pub kind_number : Form → ℕ
kind_number Plain = 0
kind_number Floats = 1
kind_number Shorts = 2

-- A header's room has 28 bytes; the form of the scope paper uses 24 of them.
abbrev pub room_behind : Form → List ℕ
room_behind Plain = 0 ∷ 0 ∷ 0 ∷ 0 ∷ []
room_behind Floats = []
room_behind Shorts = []
