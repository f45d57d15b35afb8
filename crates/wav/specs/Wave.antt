-- What a WAVE file holds, or why it is refused.
use Rattle.std.specs.Prelude.{ℕ, ◌+◌, ◌*◌, ◌/◌, ◌%◌, Bool, List, [], ◌∷◌, ltb, leb, eqb, Result, Ok, Err}
use Rattle.answers.specs.Pick.{pick, both}
use Rattle.answers.specs.Numbers.{allowed_rate}
use Rattle.recording.specs.Bytes.{number, number_at}
use Rattle.recording.specs.Recording.{u32_at}
use Rattle.wav.specs.Riff.{head_length, riff, wave, id_at, size_at, chunks_of}
use Rattle.wav.specs.declared.Places.{Places}
use Rattle.wav.specs.declared.Kind.{Kind}
use Rattle.wav.specs.declared.Kind.TheVariants.{Short, Single}
use Rattle.wav.specs.declared.Format.{Format}
use Rattle.wav.specs.declared.Reason.{Reason}
use Rattle.wav.specs.declared.Reason.TheVariants.{NotRiff, NotWave, ShortFormat, OtherFormat, OtherBits, OtherFrame, OtherRate, Cut, NotWhole}
use Rattle.wav.specs.declared.Sound.{Sound}

abbrev pub u16_at : List ℕ → ℕ → ℕ
u16_at s at = number_at 2 s at

-- Asks for something, and is refused without it.
abbrev pub or_refuse : Bool → Reason → Result Sound Reason → Result Sound Reason
or_refuse asked reason behind = pick asked behind (Err reason)

-- ---- the format, in the chunk that begins at `at`: tag, channels, rate, bytes a second, bytes a frame, bits a sample

-- Bytes a second follow from the rest and are not read.
abbrev pub format_with : ℕ → List ℕ → ℕ → Format
format_with tag s at =
    record {
      tag = tag;
      channels = u16_at s (at + 10);
      rate = u32_at s (at + 12);
      align = u16_at s (at + 20);
      bits = u16_at s (at + 22);
    }

abbrev pub tag_at : List ℕ → ℕ → ℕ
tag_at s at = u16_at s (at + 8)

-- The tag of the extensible format: 24 bytes more follow, and the last 16 of them name the sub-format. Such a name is a tag and 14 bytes that are always the same.
abbrev pub extensible : ℕ
extensible = 65534

abbrev pub sub_tag_at : List ℕ → ℕ → ℕ
sub_tag_at s at = u16_at s (at + 32)

unfoldable pub names_tag : List ℕ → ℕ → Bool
names_tag s at =
    both (eqb (u16_at s (at + 34)) (number (0 ∷ 0 ∷ []))) (
    both (eqb (u32_at s (at + 36)) (number (0 ∷ 0 ∷ 16 ∷ 0 ∷ []))) (
    both (eqb (u32_at s (at + 40)) (number (128 ∷ 0 ∷ 0 ∷ 170 ∷ []))) (
    eqb (u32_at s (at + 44)) (number (0 ∷ 56 ∷ 155 ∷ 113 ∷ [])))))

-- ---- judged

-- A sample is a signed number of 16 bits, or a float of 32.
abbrev pub width_of : Kind → ℕ
width_of Short = 2
width_of Single = 4

-- A frame has a sample of each channel, one behind the other.
abbrev pub frame_of : Kind → ℕ → ℕ
frame_of kind channels = width_of kind * channels

-- There is a channel, and the bytes of a frame are those of its samples.
unfoldable pub whole_frame : Kind → ℕ → ℕ → Bool
whole_frame kind channels align = both (ltb 0 channels) (eqb align (frame_of kind channels))

-- The samples are `size` bytes from byte `at` on, in a file of `length` bytes.
unfoldable pub sound_of : Kind → Format → ℕ → ℕ → ℕ → Result Sound Reason
sound_of kind f at size length =
    or_refuse (eqb f.bits (8 * width_of kind)) (OtherBits f.bits) (
    or_refuse (whole_frame kind f.channels f.align) OtherFrame (
    or_refuse (allowed_rate f.rate) (OtherRate f.rate) (
    or_refuse (leb (at + size) length) Cut (
    or_refuse (eqb (size % f.align) 0) NotWhole (
    Ok (record { kind = kind; channels = f.channels; rate = f.rate; at = at; size = size; frames = size / f.align }))))))

-- Tag 1 is whole numbers, tag 3 floats; every other is compressed or unknown.
unfoldable pub judged : Format → ℕ → ℕ → ℕ → Result Sound Reason
judged f at size length =
    pick (eqb f.tag 1) (sound_of Short f at size length) (
    pick (eqb f.tag 3) (sound_of Single f at size length)
    (Err (OtherFormat f.tag)))

-- The chunks of the format and of the samples begin at `format` and `samples`.
unfoldable pub described : List ℕ → ℕ → ℕ → ℕ → Result Sound Reason
described s format samples length =
    or_refuse (leb 16 (size_at s format)) ShortFormat (
    pick (eqb (tag_at s format) extensible)
    (or_refuse (leb 40 (size_at s format)) ShortFormat (
    or_refuse (names_tag s format) (OtherFormat extensible)
    (judged (format_with (sub_tag_at s format) s format) (samples + 8) (size_at s samples) length)))
    (judged (format_with (tag_at s format) s format) (samples + 8) (size_at s samples) length))

abbrev pub heard : List ℕ → ℕ → Result Places Reason → Result Sound Reason
heard s length (Err reason) = Err reason
heard s length (Ok places) = described s places.format places.samples length

-- Opens a file of so many bytes by its head. The size behind "RIFF" is not read: the samples' own says how many there are.
unfoldable pub opened_wave : List ℕ → ℕ → Result Sound Reason
opened_wave s length =
    or_refuse (both (leb 12 (head_length s)) (eqb (id_at s 0) riff)) NotRiff (
    or_refuse (eqb (id_at s 8) wave) NotWave
    (heard s length (chunks_of s)))
