-- A RIFF file of the form WAVE: "RIFF", a size, "WAVE", and then chunks. A chunk is an id of four letters, a size, so many bytes, and one more behind them where the size is odd.
use Rattle.std.specs.Prelude.{ℕ, zero, suc, ◌+◌, ◌%◌, min, List, [], ◌∷◌, ltb, eqb, length, Result, Ok, Err}
use Rattle.answers.specs.Pick.{pick}
use Rattle.recording.specs.Bytes.{number}
use Rattle.recording.specs.Recording.{u32_at}
use Rattle.wav.specs.declared.Places.{Places}
use Rattle.wav.specs.declared.Reason.{Reason}
use Rattle.wav.specs.declared.Reason.TheVariants.{NoFormat, NoData}

-- The head of a file: its first 65,536 bytes, or all of them where there are fewer. The chunks up to the samples must begin in it.
abbrev pub head_length : List ℕ → ℕ
head_length s = min (length s) 65536

-- Four letters, as the number that they are where four bytes are read as one.
abbrev pub riff : ℕ
riff = number (82 ∷ 73 ∷ 70 ∷ 70 ∷ [])

abbrev pub wave : ℕ
wave = number (87 ∷ 65 ∷ 86 ∷ 69 ∷ [])

-- "fmt "
abbrev pub format_id : ℕ
format_id = number (102 ∷ 109 ∷ 116 ∷ 32 ∷ [])

-- "data"
abbrev pub data_id : ℕ
data_id = number (100 ∷ 97 ∷ 116 ∷ 97 ∷ [])

abbrev pub id_at : List ℕ → ℕ → ℕ
id_at s at = u32_at s at

abbrev pub size_at : List ℕ → ℕ → ℕ
size_at s at = u32_at s (at + 4)

-- Where the chunk behind this one begins.
abbrev pub behind : List ℕ → ℕ → ℕ
behind s at = at + 8 + size_at s at + size_at s at % 2

-- A chunk that says the format stands for those before it. (No chunk begins at 0.)
abbrev pub format_past : List ℕ → ℕ → ℕ → ℕ
format_past s at format = pick (eqb (id_at s at) format_id) at format

-- The samples' chunk ends the walk; a format must have come before it.
abbrev pub found_at : ℕ → ℕ → Result Places Reason
found_at format samples = pick (eqb format 0) (Err NoFormat) (Ok (record { format = format; samples = samples }))

-- Walks over at most so many chunks, from the one that begins at `at` on. `format` is where the chunk of the format begins, 0 where none was passed. A chunk of another id is skipped.
unfoldable pub chunks_from : List ℕ → ℕ → ℕ → ℕ → Result Places Reason
chunks_from s zero at format = Err NoData
chunks_from s (suc left) at format =
    pick (ltb (head_length s) (at + 8)) (Err NoData) (
    pick (eqb (id_at s at) data_id) (found_at format at)
    (chunks_from s left (behind s at) (format_past s at format)))

-- A chunk has at least eight bytes, so that the head holds no more than 8,192 of them (theorem `Walk-Ends`).
abbrev pub chunks_of : List ℕ → Result Places Reason
chunks_of s = chunks_from s 8192 12 0
