-- SPECIFICATION 12: a recording of 16-bit samples as one of the scope paper's form, and back.
use Rattle.std.specs.Prelude.{ℕ, zero, suc, ◌+◌, ◌*◌, Bool, true, false, List, [], ◌++◌, take, drop, Option, Some, None}
use Rattle.recording.specs.declared.Event.{Event}
use Rattle.answers.specs.Pick.{pick, both}
use Rattle.recording_shorts.specs.Shorts.{quotient_bits, short_of}
use Rattle.recording.specs.Bytes.{number_at, bytes}
use Rattle.recording.specs.Recording.{offset_of, opened, header_bytes}
use Rattle.recording.specs.Samples.{width, bytes_of, used_up}
use Rattle.recording.specs.declared.Form.{Form}
use Rattle.recording.specs.declared.Form.TheVariants.{Plain, Floats, Shorts}
use Rattle.recording.specs.declared.Header.{Header}
use Rattle.recording.specs.declared.Used.{Used}
use Rattle.recording.specs.declared.Event.TheVariants as event
use Rattle.recording_convert.specs.Whole.{Recording, entry_of, used_by, whole_recording}
use Rattle.recording_convert.specs.declared.Direction.{Direction}
use Rattle.recording_convert.specs.declared.Direction.TheVariants.{ToFloats, ToShorts}
use Rattle.recording_convert.specs.declared.Side.{Side}
use Rattle.recording_convert.specs.declared.Side.TheVariants.{FarSide, NearSide, NoSide}

-- ---- the two directions

-- The form that a direction takes, and the one that it gives.
abbrev pub form_from : Direction → Form
form_from ToFloats = Shorts
form_from ToShorts = Plain

abbrev pub form_to : Direction → Form
form_to ToFloats = Plain
form_to ToShorts = Shorts

abbrev pub back : Direction → Direction
back ToFloats = ToShorts
back ToShorts = ToFloats

-- A sample of the other kind, or none that means the same.
pub data Sample : Type 0 where
  Stored : (bits : ℕ) → Sample
  Strange : Sample

abbrev pub of_short : Option ℕ → Sample
of_short (Some n) = Stored n
of_short None = Strange

-- Converts one sample: a number becomes its quotient's pattern, and a pattern the number whose quotient has it. Any other pattern is strange, that of -0.0 among them.
abbrev pub sample_to : Direction → ℕ → Sample
sample_to ToFloats n = Stored (quotient_bits n)
sample_to ToShorts bits = of_short (short_of bits)

-- ---- samples

-- Reads the bits of sample number k.
abbrev pub bits_at : Form → List ℕ → ℕ → ℕ
bits_at form s k = number_at (width form) s (bytes_of form k)

abbrev pub stored_bytes : Form → Sample → List ℕ
stored_bytes form (Stored bits) = bytes (width form) bits
stored_bytes form Strange = []

-- Gives the bytes of the first n samples, converted.
unfoldable pub stored : Direction → List ℕ → ℕ → List ℕ
stored d s zero = []
stored d s (suc n) = stored d s n ++ stored_bytes (form_to d) (sample_to d (bits_at (form_from d) s n))

-- Finds the first of n samples from number k on that is strange: how many stand before it.
pub data Found : Type 0 where
  Nowhere : Found
  Behind : (others : ℕ) → Found

abbrev pub one_later : Found → Found
one_later Nowhere = Nowhere
one_later (Behind others) = Behind (others + 1)

abbrev pub or_later : Sample → Found → Found
or_later (Stored bits) later = one_later later
or_later Strange later = Behind 0

unfoldable pub first_strange : Direction → List ℕ → ℕ → ℕ → Found
first_strange d s k zero = Nowhere
first_strange d s k (suc n) = or_later (sample_to d (bits_at (form_from d) s k)) (first_strange d s (k + 1) n)

-- ---- what is written

-- The header's fields stay, but for the offset and the sample kind.
abbrev pub as_form : Form → Header → Header
as_form form h = record { form = form; rate = h.rate; ceiling = h.ceiling; events = h.events; far = h.far; near = h.near }

-- The first e events and their samples.
abbrev pub written : Direction → Header → Recording → ℕ → Used → Recording
written d h r e u =
    record {
      events = header_bytes (as_form (form_to d) h) ++ take (16 * e) (drop (offset_of h.form) r.events);
      far = stored d r.far u.far;
      near = stored d r.near u.near;
    }

-- ---- event by event

-- Converted: all of it. Unrepresentable: sample number `sample` of event number `event`, which is number `place` of its side, is strange; what stands before that event is written.
pub data Converting : Type 0 where
  Converted : (given : Recording) → Converting
  Unrepresentable : (number sample : ℕ) (side : Side) (place : ℕ) (given : Recording) → Converting
  OtherForm : Converting

-- Finds an event's first strange sample, with its side and its place there.
abbrev pub strange_of : Direction → Recording → Used → Option Event → Found
strange_of d r u None = Nowhere
strange_of d r u (Some (event.Far count)) = first_strange d r.far u.far count
strange_of d r u (Some (event.Near count first)) = first_strange d r.near u.near count
strange_of d r u (Some event.Rearm) = Nowhere
strange_of d r u (Some event.DiscardNear) = Nowhere
strange_of d r u (Some event.Unconfident) = Nowhere
strange_of d r u (Some (event.Interior alignment delay)) = Nowhere
strange_of d r u (Some (event.Edge alignment delay)) = Nowhere
strange_of d r u (Some event.Discontinuity) = Nowhere

abbrev pub side_of : Option Event → Side
side_of None = NoSide
side_of (Some (event.Far count)) = FarSide
side_of (Some (event.Near count first)) = NearSide
side_of (Some event.Rearm) = NoSide
side_of (Some event.DiscardNear) = NoSide
side_of (Some event.Unconfident) = NoSide
side_of (Some (event.Interior alignment delay)) = NoSide
side_of (Some (event.Edge alignment delay)) = NoSide
side_of (Some event.Discontinuity) = NoSide

abbrev pub place_on : Side → Used → ℕ → ℕ
place_on FarSide u sample = u.far + sample
place_on NearSide u sample = u.near + sample
place_on NoSide u sample = sample

-- What is used behind an event of a whole recording.
abbrev pub used_after : Used → Option Used → Used
used_after u None = u
used_after u (Some v) = v

abbrev pub unless : Found → (ℕ → Converting) → Converting → Converting
unless Nowhere strange behind = behind
unless (Behind others) strange behind = strange others

-- `left` events from number e on, all before them converted.
unfoldable pub convert_from : Direction → Header → Recording → ℕ → ℕ → Used → Converting
convert_from d h r zero e u = Converted (written d h r e u)
convert_from d h r (suc left) e u =
    let k = entry_of h.form r e in
    unless (strange_of d r u k)
    (λ (sample : ℕ). Unrepresentable e sample (side_of k) (place_on (side_of k) u sample) (written d h r e u))
    (convert_from d h r left (e + 1) (used_after u (used_by h r u k)))

-- ---- all of it

abbrev pub same_form : Form → Form → Bool
same_form Plain Plain = true
same_form Plain Floats = false
same_form Plain Shorts = false
same_form Floats Plain = false
same_form Floats Floats = true
same_form Floats Shorts = false
same_form Shorts Plain = false
same_form Shorts Floats = false
same_form Shorts Shorts = true

abbrev pub form_is : Form → Option Header → Bool
form_is form None = false
form_is form (Some h) = same_form form h.form

abbrev pub converted_as : Direction → Recording → Option Header → Converting
converted_as d r None = OtherForm
converted_as d r (Some h) = convert_from d h r h.events 0 (used_up 0 0)

-- Another form, or a recording that is not whole, comes before all else.
unfoldable pub converted : Direction → Recording → Converting
converted d r = pick (both (whole_recording r) (form_is (form_from d) (opened r.events))) (converted_as d r (opened r.events)) OtherForm

abbrev pub floated : Recording → Converting
floated r = converted ToFloats r

abbrev pub shortened : Recording → Converting
shortened r = converted ToShorts r

-- ---- up to the end that the header announces

abbrev pub announced_by : Recording → Option Header → Recording
announced_by r None = r
announced_by r (Some h) =
    record {
      events = take (offset_of h.form + 16 * h.events) r.events;
      far = take (bytes_of h.form h.far) r.far;
      near = take (bytes_of h.form h.near) r.near;
    }

unfoldable pub announced : Recording → Recording
announced r = announced_by r (opened r.events)
