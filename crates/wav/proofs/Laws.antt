-- Laws of frames, and of what is opened.
use Rattle.std.specs.Prelude.{Ok}
use mathlib.Core.Path.{◌≡◌, ◌∙◌}
use mathlib.Core.Bool.{true}
use Prim.Native.Nat.{ℕ, ◌+◌, ◌*◌, ◌/◌, ◌%◌, ◌<◌, ◌≤◌}
use native.Mathlib.Omega.{arith}
use lib.Dec.{leb, eqb}
use borrow.Author.Tests.{ltb-true, eqb-true}
use Rattle.answers.proofs.Passed.{both_true}
use Rattle.answers.specs.Pick.{pick_true}
use Rattle.answers.specs.Numbers.{allowed_rate}
use Rattle.wav.specs.Wave.{width_of, frame_of, whole_frame, sound_of}
use Rattle.wav.specs.declared.Format.{Format}
use Rattle.wav.specs.declared.Kind.{Kind}
use Rattle.wav.specs.declared.Kind.TheVariants.{Short, Single}

pub width_some : (kind : Kind) → 0 < width_of kind
width_some Short = omega arith
width_some Single = omega arith

pub width_most : (kind : Kind) → width_of kind ≤ 4
width_most Short = omega arith
width_most Single = omega arith

pub frame_most : (kind : Kind) (n : ℕ) → n < 65536 → width_of kind * n ≤ 262140
frame_most Short n h = omega arith
frame_most Single n h = omega arith

pub frame_some : (kind : Kind) (n : ℕ) → 0 < n → 0 < frame_of kind n
frame_some Short n h = omega arith
frame_some Single n h = omega arith

pub aligned : (kind : Kind) (channels align : ℕ) → whole_frame kind channels align ≡ true → 0 < align
unfolding whole_frame
aligned kind channels align e =
    let f = both_true _ _ e in
    omega (arith, frame_some kind channels (ltb-true 0 channels f.0), eqb-true align (frame_of kind channels) f.1)

-- what passes every test is opened
pub sound_opened : (kind : Kind) (f : Format) (at size length : ℕ) → eqb f.bits (8 * width_of kind) ≡ true → whole_frame kind f.channels f.align ≡ true →
    allowed_rate f.rate ≡ true → leb (at + size) length ≡ true → eqb (size % f.align) 0 ≡ true →
    sound_of kind f at size length ≡ Ok (record { kind = kind; channels = f.channels; rate = f.rate; at = at; size = size; frames = size / f.align })
unfolding sound_of
sound_opened kind f at size length a b c d e = pick_true _ _ _ a ∙ pick_true _ _ _ b ∙ pick_true _ _ _ c ∙ pick_true _ _ _ d ∙ pick_true _ _ _ e
