-- Samples decoded at the start of a buffer.
use Prim.Native.Nat.{ℕ, ◌-◌, ◌*◌, ◌/◌, ◌≤◌, min}
use mathlib.Core.Path.{◌≡◌, ap, ◌∙◌}
use mathlib.Core.List.{List, [], ◌++◌, append-nil}
use native.Mathlib.Omega.{arith}
use lib.Ieee.{Float}
use lib.ListN.{length, take, drop, drop_of_length-le}
use lib.Seq.{length-take-le, take_at}
use Rattle.recording.specs.Samples.{width, bytes_of, samples_in, decoded}
use Rattle.recording.specs.declared.Form.{Form}
use Rattle.recording.specs.declared.Form.TheVariants.{Plain, Floats, Shorts}
use Rattle.recording.proofs.Forms.{bytes_count}
use Rattle.replay_stream.proofs.Fronts.{samples_length}
use Rattle.replay_near.specs.Telling.{Room, filled}

-- a sample has two bytes at least
pub bytes_least : (form : Form) (n : ℕ) → 2 * n ≤ bytes_of form n
bytes_least Plain n = omega arith
bytes_least Floats n = omega arith
bytes_least Shorts n = omega arith

pub decode_filled : (form : Form) (s : List ℕ) (n : ℕ) (samples out : List Float) → Room form n s samples → out ≡ decoded form s (take (n - 0) (drop 0 samples)) → out ++ drop (n - 0) (drop 0 samples) ≡ filled form s n samples
unfolding filled decoded
decode_filled form s n samples out r q =
    let z : n - 0 ≡ n = omega arith in
    let o = take n samples in
    let lo : length o ≡ n = length-take-le n samples (omega (arith, r.few, r.room)) in
    let count : min (length o) (length s / width form) ≡ n = omega (arith, bytes_count form n (length s) r.there, lo) in
    let none : drop n o ≡ [] = drop_of_length-le o {i = n} (omega (arith, lo)) in
    let all : decoded form s o ≡ samples_in form s n =
    ap (λ (k : ℕ). samples_in form s k ++ drop k o) count ∙ ap (λ (t : List Float). samples_in form s n ++ t) none ∙ append-nil (samples_in form s n) in
    ap (λ (t : List Float). t ++ drop (n - 0) samples) (q ∙ ap (λ (k : ℕ). decoded form s (take k samples)) z ∙ all)
    ∙ ap (λ (k : ℕ). samples_in form s n ++ drop k samples) z

-- the decoded samples, read again
pub first_filled : (form : Form) (s : List ℕ) (n : ℕ) (samples out : List Float) → out ≡ filled form s n samples → take (n - 0) (drop 0 out) ≡ samples_in form s n
unfolding filled
first_filled form s n samples out q =
    let z : n - 0 ≡ n = omega arith in
    ap (λ (k : ℕ). take k out) z ∙ ap (take n) q ∙ take_at (samples_in form s n) (drop n samples) n (samples_length form s n)
