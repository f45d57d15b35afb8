-- SPECIFICATION 12: the header and the events of a recording.
use Rattle.std.specs.Prelude.{ℕ, ◌+◌, ◌^◌, Bool, true, List, [], ◌++◌, ltb, leb, eqb, length, Option, Some, None}
use Rattle.answers.specs.Pick.{pick, both}
use Rattle.answers.specs.Numbers.{within, allowed_rate, allowed_ceiling}
use Rattle.recording.specs.Bytes.{number_at, bytes}
use Rattle.recording.specs.declared.Form.{Form}
use Rattle.recording.specs.declared.Form.TheVariants.{Plain, Floats, Shorts}
use Rattle.recording.specs.declared.Header.{Header}
use Rattle.recording.specs.declared.Event.{Event}
use Rattle.recording.specs.declared.Event.TheVariants.{Far, Near, Rearm, DiscardNear, Unconfident, Interior, Edge, Discontinuity}

-- ---- the header: six u32, in the first 24 bytes; in a sibling of the scope paper's form a seventh, the sample kind, behind them

abbrev pub u32_at : List ℕ → ℕ → ℕ
u32_at s at = number_at 4 s at

-- The events begin behind the header.
abbrev pub offset_of : Form → ℕ
offset_of Plain = 24
offset_of Floats = 28
offset_of Shorts = 28

-- Sample kind 1 is f32 and 2 is i16.
abbrev pub sibling_of : ℕ → Option Form
sibling_of kind = pick (eqb kind 1) (Some Floats) (pick (eqb kind 2) (Some Shorts) None)

-- The offset of the events tells the form. A sibling has 28 bytes of header, and its sample kind is one of the two.
unfoldable pub shape_at : List ℕ → Option Form
shape_at s =
    pick (eqb (u32_at s 12) 24) (Some Plain) (
    pick (both (eqb (u32_at s 12) 28) (leb 28 (length s))) (sibling_of (u32_at s 24))
    None)

abbrev pub header_at : Form → List ℕ → Header
header_at form s = record { form = form; rate = u32_at s 0; ceiling = u32_at s 4; events = u32_at s 8; far = u32_at s 16; near = u32_at s 20 }

abbrev pub headed : List ℕ → Option Form → Option Header
headed s (Some form) = Some (header_at form s)
headed s None = None

-- A header is bad if it is short, if it has no form, or if rate or ceiling is outside the table.
unfoldable pub opened : List ℕ → Option Header
opened s = pick (both (leb 24 (length s)) (both (allowed_rate (u32_at s 0)) (allowed_ceiling (u32_at s 4)))) (headed s (shape_at s)) None

-- Tells from the first 24 bytes how many a header has: no byte behind it is read for it.
unfoldable pub header_length : List ℕ → ℕ
header_length s = pick (both (leb 24 (length s)) (eqb (u32_at s 12) 28)) 28 24

-- Gives a header as bytes.
abbrev pub kind_bytes : Form → List ℕ
kind_bytes Plain = []
kind_bytes Floats = bytes 4 1
kind_bytes Shorts = bytes 4 2

abbrev pub header_bytes : Header → List ℕ
header_bytes h = bytes 4 h.rate ++ bytes 4 h.ceiling ++ bytes 4 h.events ++ bytes 4 (offset_of h.form) ++ bytes 4 h.far ++ bytes 4 h.near ++ kind_bytes h.form

-- ---- an event: kind, count and number

-- One event has 1 to 4,096 samples.
abbrev pub some_samples : ℕ → Bool
some_samples count = within 1 4096 count

-- An unused field is 0.
abbrev pub unused : ℕ → Bool
unused field = eqb field 0

abbrev pub only_if : Bool → Event → Option Event
only_if rule event = pick rule (Some event) None

-- An event is bad if its kind is unknown, if the kind does not allow its count, or if a field that the kind leaves unused is not 0.
unfoldable pub event_of : ℕ → ℕ → ℕ → Option Event
event_of kind count number =
    pick (eqb kind 1) (only_if (both (some_samples count) (unused number)) (Far count)) (
    pick (eqb kind 2) (only_if (some_samples count) (Near count number)) (
    pick (eqb kind 3) (only_if (both (unused count) (unused number)) Rearm) (
    pick (eqb kind 4) (only_if (both (unused count) (unused number)) DiscardNear) (
    pick (eqb kind 5) (only_if (both (unused count) (unused number)) Unconfident) (
    pick (eqb kind 6) (Some (Interior count number)) (
    pick (eqb kind 7) (Some (Edge count number)) (
    pick (eqb kind 8) (only_if (both (unused count) (unused number)) Discontinuity)
    None)))))))

-- Reads the event in the 16 bytes of s from index `at` on. It is bad if they are not all there.
unfoldable pub event_at : List ℕ → ℕ → Option Event
event_at s at =
    pick (leb (at + 16) (length s)) (event_of (u32_at s at) (u32_at s (at + 4)) (number_at 8 s (at + 8))) None

-- Give the kind, the count and the number of an event.
abbrev pub kind_of : Event → ℕ
kind_of (Far count) = 1
kind_of (Near count first) = 2
kind_of Rearm = 3
kind_of DiscardNear = 4
kind_of Unconfident = 5
kind_of (Interior alignment delay) = 6
kind_of (Edge alignment delay) = 7
kind_of Discontinuity = 8

abbrev pub count_of : Event → ℕ
count_of (Far count) = count
count_of (Near count first) = count
count_of Rearm = 0
count_of DiscardNear = 0
count_of Unconfident = 0
count_of (Interior alignment delay) = alignment
count_of (Edge alignment delay) = alignment
count_of Discontinuity = 0

abbrev pub number_of : Event → ℕ
number_of (Far count) = 0
number_of (Near count first) = first
number_of Rearm = 0
number_of DiscardNear = 0
number_of Unconfident = 0
number_of (Interior alignment delay) = delay
number_of (Edge alignment delay) = delay
number_of Discontinuity = 0

-- Tells what an event's fields can be.
abbrev pub allowed : Event → Bool
allowed (Far count) = some_samples count
allowed (Near count first) = both (some_samples count) (ltb first (2 ^ 64))
allowed Rearm = true
allowed DiscardNear = true
allowed Unconfident = true
allowed (Interior alignment delay) = both (ltb alignment (2 ^ 32)) (ltb delay (2 ^ 64))
allowed (Edge alignment delay) = both (ltb alignment (2 ^ 32)) (ltb delay (2 ^ 64))
allowed Discontinuity = true

abbrev pub event_bytes : Event → List ℕ
event_bytes e = bytes 4 (kind_of e) ++ bytes 4 (count_of e) ++ bytes 8 (number_of e)
