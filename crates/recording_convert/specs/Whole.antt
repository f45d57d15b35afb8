-- Which recordings are whole: structure alone tells it, and no sample is read. The log of any other has a line that begins with `bad` (theorem `bad_by_structure` of replay_convert).
use Rattle.std.specs.Prelude.{ℕ, zero, suc, ◌+◌, ◌*◌, Bool, false, List, length, Option, Some, None}
use Rattle.recording.specs.declared.Event.{Event}
use Rattle.recording.specs.Recording.{offset_of, opened, event_at}
use Rattle.recording.specs.Samples.{used_up, admitted, all_used}
use Rattle.recording.specs.declared.Form.{Form}
use Rattle.recording.specs.declared.Header.{Header}
use Rattle.recording.specs.declared.Used.{Used}
use Rattle.recording.specs.declared.Lengths.{Lengths}

-- The bytes of the three inputs.
pub record Recording : Type 0 where
  pub events : List ℕ
  pub far : List ℕ
  pub near : List ℕ

abbrev pub lengths_of : Recording → Lengths
lengths_of r = record { far = length r.far; near = length r.near }

-- Reads event number e.
abbrev pub entry_of : Form → Recording → ℕ → Option Event
entry_of form r e = event_at r.events (offset_of form + 16 * e)

-- Tells what is used behind an entry, in inputs of these lengths: it is good, and its samples are within the totals and the inputs.
abbrev pub judged : Header → Lengths → Used → Option Event → Option Used
judged h l u None = None
judged h l u (Some event) = admitted h l u event

abbrev pub used_by : Header → Recording → Used → Option Event → Option Used
used_by h r u k = judged h (lengths_of r) u k

abbrev pub then_whole : Option Used → (Used → Bool) → Bool
then_whole None behind = false
then_whole (Some u) behind = behind u

-- `left` events from number e on are good, have their samples, and use all samples with those before them.
unfoldable pub whole_from : Header → Recording → ℕ → ℕ → Used → Bool
whole_from h r zero e u = all_used h u
whole_from h r (suc left) e u = then_whole (used_by h r u (entry_of h.form r e)) (λ (v : Used). whole_from h r left (e + 1) v)

abbrev pub whole_at : Recording → Option Header → Bool
whole_at r None = false
whole_at r (Some h) = whole_from h r h.events 0 (used_up 0 0)

unfoldable pub whole_recording : Recording → Bool
whole_recording r = whole_at r (opened r.events)
