-- The samples of one event, converted into lent bytes, all or nothing.
use Rattle.std.specs.Prelude.{ℕ, Bool, List, ◌++◌, leb, length, drop, Result, Ok, Err}
use Rattle.answers.specs.Pick.{pick, both}
use Rattle.recording.specs.Recording.{offset_of, header_bytes}
use Rattle.recording.specs.Samples.{bytes_of}
use Rattle.recording.specs.declared.Header.{Header}
use Rattle.recording_convert.specs.Converting.{form_from, form_to, as_form, stored, Found, Nowhere, Behind, first_strange}
use Rattle.recording_convert.specs.declared.Direction.{Direction}
use Rattle.recording_store.specs.declared.Unstored.{Unstored}
use Rattle.recording_store.specs.declared.Unstored.TheVariants.{NoRoom, StrangeAt}

-- The bytes of n samples are there, and there is room for them when they are converted.
abbrev pub fits : Direction → List ℕ → ℕ → List ℕ → Bool
fits d s n out = both (leb (bytes_of (form_from d) n) (length s)) (leb (bytes_of (form_to d) n) (length out))

abbrev pub told : Direction → ℕ → Found → Result ℕ Unstored
told d n Nowhere = Ok (bytes_of (form_to d) n)
told d n (Behind others) = Err (StrangeAt others)

-- What is answered of the first n samples of the bytes s: how many bytes were written, or how many samples stand before the first strange one.
unfoldable pub storing : Direction → List ℕ → ℕ → List ℕ → Result ℕ Unstored
storing d s n out = pick (fits d s n out) (told d n (first_strange d s 0 n)) (Err NoRoom)

-- The samples stand at the start of out, or it is as it was.
abbrev pub or_none : Direction → List ℕ → ℕ → List ℕ → Found → List ℕ
or_none d s n out Nowhere = stored d s n ++ drop (bytes_of (form_to d) n) out
or_none d s n out (Behind others) = out

unfoldable pub stored_into : Direction → List ℕ → ℕ → List ℕ → List ℕ
stored_into d s n out = pick (fits d s n out) (or_none d s n out (first_strange d s 0 n)) out

-- ---- the header

-- Room for the header that a direction gives: how many bytes were written, 0 for none.
unfoldable pub header_stored : Direction → List ℕ → ℕ
header_stored d out = pick (leb 28 (length out)) (offset_of (form_to d)) 0

unfoldable pub headed_into : Direction → Header → List ℕ → List ℕ
headed_into d h out = pick (leb 28 (length out)) (header_bytes (as_form (form_to d) h) ++ drop (offset_of (form_to d)) out) out
