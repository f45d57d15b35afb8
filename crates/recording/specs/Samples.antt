-- SPECIFICATION 12: the samples of an event, and how they are counted.
use Rattle.std.specs.Prelude.{ℕ, zero, suc, ◌+◌, ◌*◌, ◌/◌, min, Bool, List, [], ◌∷◌, ◌++◌, leb, Float, length, take, drop, Option, Some, None}
use Rattle.std.specs.Float.{binary32}
use Rattle.std.specs.Float.Ieee.{of_bits}
use Rattle.answers.specs.Pick.{pick, both}
use Rattle.recording_shorts.specs.Shorts.{short_sample}
use Rattle.recording.specs.Bytes.{number_at}
use Rattle.recording.specs.declared.Form.{Form}
use Rattle.recording.specs.declared.Form.TheVariants.{Plain, Floats, Shorts}
use Rattle.recording.specs.declared.Header.{Header}
use Rattle.recording.specs.declared.Lengths.{Lengths}
use Rattle.recording.specs.declared.Used.{Used}
use Rattle.recording.specs.declared.Event.{Event}
use Rattle.recording.specs.declared.Event.TheVariants.{Far, Near, Rearm, DiscardNear, Unconfident, Interior, Edge, Discontinuity}

-- ---- samples from bytes

-- An f32 has four bytes, an i16 two.
abbrev pub width : Form → ℕ
width Plain = 4
width Floats = 4
width Shorts = 2

abbrev pub bytes_of : Form → ℕ → ℕ
bytes_of form samples = width form * samples

-- Reads a sample. Every pattern of a NaN is the NaN; an i16 means its number divided by 32,768.
abbrev pub sample_of : Form → ℕ → Float
sample_of Plain bits = of_bits binary32 bits
sample_of Floats bits = of_bits binary32 bits
sample_of Shorts bits = short_sample bits

-- Reads sample number k that the bytes hold.
abbrev pub sample_at : Form → List ℕ → ℕ → Float
sample_at form s k = sample_of form (number_at (width form) s (bytes_of form k))

-- Lists the first n samples that the bytes hold.
unfoldable pub samples_in : Form → List ℕ → ℕ → List Float
samples_in form s zero = []
samples_in form s (suc n) = samples_in form s n ++ sample_at form s n ∷ []

-- Counts as many as both the bytes and the buffer hold.
abbrev pub decoded_count : Form → List ℕ → List Float → ℕ
decoded_count form s out = min (length out) (length s / width form)

-- Gives the buffer afterwards: these samples are at its start.
unfoldable pub decoded : Form → List ℕ → List Float → List Float
decoded form s out = samples_in form s (decoded_count form s out) ++ drop (decoded_count form s out) out

-- ---- the samples of an event, as a part of the far or the near piece

-- Gives `count` samples from index `at` on, or none if there are not that many.
unfoldable pub part : List Float → ℕ → ℕ → List Float
part piece at count = pick (leb (at + count) (length piece)) (take count (drop at piece)) []

-- `f` samples of the far piece and `n` of the near piece have been used already.
unfoldable pub samples_of : List Float → List Float → Event → ℕ → ℕ → List Float
samples_of far near (Far count) f n = part far f count
samples_of far near (Near count first) f n = part near n count
samples_of far near Rearm f n = []
samples_of far near DiscardNear f n = []
samples_of far near Unconfident f n = []
samples_of far near (Interior alignment delay) f n = []
samples_of far near (Edge alignment delay) f n = []
samples_of far near Discontinuity f n = []

-- ---- whether there are samples for an event, and whether events use all samples

-- This many samples of an input are within the header's total, and their bytes are there.
abbrev pub supplied : Form → ℕ → ℕ → ℕ → Bool
supplied form samples total length = both (leb samples total) (leb (bytes_of form samples) length)

abbrev pub used_up : ℕ → ℕ → Used
used_up f n = record { far = f; near = n }

-- Gives what is used after the event. Samples are lacking if it passes a total, or if its input is short.
unfoldable pub admitted : Header → Lengths → Used → Event → Option Used
admitted h l u (Far count) =
    pick (supplied h.form (u.far + count) h.far l.far) (Some (used_up (u.far + count) u.near)) None
admitted h l u (Near count first) =
    pick (supplied h.form (u.near + count) h.near l.near) (Some (used_up u.far (u.near + count))) None
admitted h l u Rearm = Some u
admitted h l u DiscardNear = Some u
admitted h l u Unconfident = Some u
admitted h l u (Interior alignment delay) = Some u
admitted h l u (Edge alignment delay) = Some u
admitted h l u Discontinuity = Some u

-- The events use no fewer samples than the totals.
unfoldable pub all_used : Header → Used → Bool
all_used h u = both (leb h.far u.far) (leb h.near u.near)
