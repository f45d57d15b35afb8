-- Laws of the bytes of a channel.
use mathlib.Core.Path.{◌≡◌, sym, ap, ◌∙◌}
use mathlib.Core.List.{List, ◌++◌}
use Prim.Native.Nat.{ℕ, ◌+◌, ◌*◌, ◌/◌, ◌%◌, ◌<◌, ◌≤◌, min}
use native.Mathlib.Nat.{add-mul, mod-lt, mul_comm, mul-div-le, mul-le-mul_left, mul-le-mul_right, div-lt_iff_lt-mul}
use native.Mathlib.Numerals.{add-one}
use native.Mathlib.Omega.{arith}
use lib.ListN.{length, take, drop, get_or, set, take-append-drop}
use lib.Seq.{drop-drop, take-suc-set, drop-set-lt}
use borrow.Author.Tests.{lt-ltb, le-ltb}
use Rattle.answers.specs.Pick.{pick_true, pick_false}
use Rattle.wav.specs.Wave.{width_of, frame_of}
use Rattle.wav.specs.Channel.{place_of, channel_bytes, taken_count, taken_bytes, taken}
use Rattle.wav.specs.Steps.{Reachable}
use Rattle.wav.specs.declared.Kind.{Kind}
use Rattle.wav.specs.declared.Kind.TheVariants.{Short, Single}
use Rattle.wav.proofs.Laws.{width_some}

-- a byte of a channel is within the frames at hand
pub place_within : (width frame before n bytes room i : ℕ) → Reachable width frame before n bytes room → i < n
    → (i / width * frame + frame ≤ bytes) × (i / width * frame + before + i % width < bytes)
place_within width frame before n bytes room i r h =
    let all : i / width * frame + 1 * frame ≤ bytes = rw (add-mul (i / width) 1 frame) at (r.there i h) in
    (omega arith, omega (arith, mod-lt i r.some, r.inside))

module _ (width frame before : ℕ) (s : List ℕ) where
  -- one byte more
  pub bytes_more : (out : List ℕ) (i : ℕ) → i < length out → take i out ≡ channel_bytes width frame before s i
      → take (i + 1) (set out i (get_or s (place_of width frame before i) 0)) ≡ channel_bytes width frame before s (i + 1)
  unfolding channel_bytes
  bytes_more out i h e = rw (add-one, take-suc-set, e)

  -- all of them
  pub bytes_all : (out out₀ : List ℕ) (n i : ℕ) → i ≤ n → n ≤ i → take i out ≡ channel_bytes width frame before s i → drop i out ≡ drop i out₀
      → out ≡ channel_bytes width frame before s n ++ drop n out₀
  bytes_all out out₀ n i a b t d =
      let e : i ≡ n = omega arith in
      sym (take-append-drop i out) ∙ rw (t, d, e)

pub rest_more : (out rest : List ℕ) (i x : ℕ) → drop i out ≡ drop i rest → drop (i + 1) (set out i x) ≡ drop (i + 1) rest
rest_more out rest i x e = drop-set-lt (i + 1) out i x (omega arith) ∙ sym (drop-drop 1 i out) ∙ ap (drop 1) e ∙ drop-drop 1 i rest

-- ---- all that is at hand

module _ (kind : Kind) (channels channel : ℕ) (s out : List ℕ) where
  pub none_taken : channels ≤ channel → (0 ≡ taken_count kind channels channel s out) × (out ≡ taken kind channels channel s out)
  unfolding taken_bytes channel_bytes
  none_taken h =
      let none : taken_count kind channels channel s out ≡ 0 = pick_false _ _ _ (le-ltb _ _ h) in
      let z : width_of kind * 0 ≡ 0 = omega arith in
      (sym none, rw (none, z))

  -- w and f are the bytes of a sample and of a frame: the code's, before they are known to be the kind's
  module _ (w f n : ℕ) (e : w ≡ width_of kind) (g : f ≡ frame_of kind channels) (h : channel < channels) (m : n ≡ min (length s / f) (length out / w)) where
    wide : 0 < w
    wide = omega (arith, width_some kind)

    inside : (k : Kind) → width_of k * channel + width_of k ≤ frame_of k channels
    inside Short = omega arith
    inside Single = omega arith

    there : (i : ℕ) → i < w * n → (i / w + 1) * f ≤ length s
    there i l =
        let q : i / w < n = (div-lt_iff_lt-mul wide).1 (omega (arith, mul_comm w n)) in
        let a : (i / w + 1) * f ≤ length s / f * f = mul-le-mul_right f (omega arith) in
        omega (arith, a, mul-div-le (length s) f, mul_comm f (length s / f))

    fits : w * n ≤ length out
    fits =
        let a : w * n ≤ w * (length out / w) = mul-le-mul_left w (omega arith) in
        omega (arith, a, mul-div-le (length out) w)

    pub reachable : Reachable w f (w * channel) (w * n) (length s) (length out)
    reachable = record { some = wide; inside = rw (e, g) (inside kind); there = there; fits = fits }

    pub all_taken : (after : List ℕ) → after ≡ channel_bytes w f (w * channel) s (w * n) ++ drop (w * n) out
        → (n ≡ taken_count kind channels channel s out) × (after ≡ taken kind channels channel s out)
    unfolding taken_bytes
    all_taken after q =
        let count : n ≡ taken_count kind channels channel s out = rw (e, g) at m ∙ sym (pick_true _ _ _ (lt-ltb _ _ h)) in
        let whole : f ≡ w * channels = rw e g in
        (count, rw (← count, ← e) (rw whole at q))
