-- The contracts between the parts of the code, for functions that are not public.
use Rattle.std.specs.Prelude.{ℕ, Bool, List, ◌++◌, ltb, Option, Some, None, is_some, unwrap_or}
use Rattle.answers.specs.Pick.{pick}
use Rattle.recording.specs.Bytes.{bytes}
use Rattle.recording.specs.declared.Header.{Header}
use Rattle.recording_convert.specs.Converting.{form_from, Sample, Stored, Strange, sample_to, bits_at, Found, Nowhere, Behind}
use Rattle.recording_convert.specs.declared.Direction.{Direction}

-- A converted sample as the code has it.
abbrev pub code_of : Sample → Option ℕ
code_of (Stored bits) = Some bits
code_of Strange = None

abbrev pub is_fine : Option ℕ → Bool
is_fine code = is_some code

abbrev pub bits_in : Option ℕ → ℕ
bits_in code = unwrap_or code 0

abbrev pub code_at : Direction → List ℕ → ℕ → Option ℕ
code_at d s i = code_of (sample_to d (bits_at (form_from d) s i))

-- Of n samples the first r are fine, and the next is strange where there is one.
abbrev pub found_at : ℕ → ℕ → Found
found_at n r = pick (ltb r n) (Behind r) Nowhere

-- The first six fields of a header, with this offset.
abbrev pub field_bytes : Header → ℕ → List ℕ
field_bytes h offset = bytes 4 h.rate ++ bytes 4 h.ceiling ++ bytes 4 h.events ++ bytes 4 offset ++ bytes 4 h.far ++ bytes 4 h.near
