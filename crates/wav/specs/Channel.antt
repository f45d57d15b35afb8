-- The samples of one channel, out of frames.
use Rattle.std.specs.Prelude.{ℕ, zero, suc, ◌+◌, ◌*◌, ◌/◌, ◌%◌, min, List, [], ◌∷◌, ◌++◌, ltb, length, drop, get_or}
use Rattle.answers.specs.Pick.{pick}
use Rattle.wav.specs.Wave.{width_of, frame_of}
use Rattle.wav.specs.declared.Kind.{Kind}

-- Byte i of a channel whose samples have `width` bytes: it belongs to the sample of frame i / width, which stands behind the `before` bytes of the channels before it.
abbrev pub place_of : ℕ → ℕ → ℕ → ℕ → ℕ
place_of width frame before i = i / width * frame + before + i % width

-- Gives the first n bytes of a channel.
unfoldable pub channel_bytes : ℕ → ℕ → ℕ → List ℕ → ℕ → List ℕ
channel_bytes width frame before s zero = []
channel_bytes width frame before s (suc n) = channel_bytes width frame before s n ++ get_or s (place_of width frame before n) 0 ∷ []

-- Counts the samples: one for each whole frame at hand for which there is room; none where there is no such channel. The first is channel 0.
abbrev pub taken_count : Kind → ℕ → ℕ → List ℕ → List ℕ → ℕ
taken_count kind channels channel s out =
    pick (ltb channel channels) (min (length s / frame_of kind channels) (length out / width_of kind)) 0

-- Gives the room afterwards where n samples are taken: their bytes are at its start.
unfoldable pub taken_bytes : Kind → ℕ → ℕ → ℕ → List ℕ → List ℕ → List ℕ
taken_bytes kind channels channel n s out =
    channel_bytes (width_of kind) (frame_of kind channels) (width_of kind * channel) s (width_of kind * n) ++ drop (width_of kind * n) out

abbrev pub taken : Kind → ℕ → ℕ → List ℕ → List ℕ → List ℕ
taken kind channels channel s out = taken_bytes kind channels channel (taken_count kind channels channel s out) s out
