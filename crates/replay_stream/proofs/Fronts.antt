-- Bytes read from the front of what is left are those that stand in the whole input.
use Prim.Native.Nat.{ℕ, zero, suc, ◌+◌, ◌-◌, ◌/◌, ◌≤◌}
use mathlib.Core.Path.{◌≡◌, refl, sym, ap, ◌∙◌}
use mathlib.Core.Bool.{Bool, true, false, not}
use mathlib.Core.List.{List, [], ◌∷◌, ◌++◌, append-nil, append_assoc}
use mathlib.Core.Logic.{◌⊎◌, inl, inr}
use native.Mathlib.Omega.{arith}
use lib.Dec.{leb, ltb}
use lib.ListN.{length, take, drop, length-append, length-drop, take-append-drop}
use lib.Seq.{drop-drop, drop_at, take_at, length-take-le, drop-append-le}
use borrow.Author.Tests.{le-leb, lt-leb, ltb-false}
use Rattle.answers.specs.Pick.{pick, both, pick_true, pick_false}
use Rattle.floats.proofs.Compare.{le_or_lt}
use Rattle.recording.specs.Bytes.{number_at}
use Rattle.recording.specs.Recording.{opened, header_length, event_at}
use Rattle.recording.specs.Samples.{width, bytes_of, samples_in, sample_at, part}
use Rattle.recording.specs.declared.Form.{Form}
use Rattle.recording.proofs.Theorems.{event_after, event_within, samples_within, header_within}
use Rattle.recording.proofs.Forms.{bytes_count}
use Rattle.replay.specs.Log.{all_samples}
use Rattle.replay_stream.specs.Stream.{Piece, short}
use Rattle.replay_stream.specs.Hosts.{Front}

-- ---- samples

pub samples_length : (form : Form) (s : List ℕ) (n : ℕ) → length (samples_in form s n) ≡ n
unfolding samples_in
samples_length form s zero = refl
samples_length form s (suc n) = omega (arith, length-append (samples_in form s n) (sample_at form s n ∷ []), samples_length form s n)

sample_later : (form : Form) (s : List ℕ) (u m : ℕ) → sample_at form s (u + m) ≡ sample_at form (drop (bytes_of form u) s) m
unfolding number_at
sample_later form s u m =
    let e : bytes_of form (u + m) ≡ bytes_of form u + bytes_of form m = omega arith in
    rw (e, drop-drop (bytes_of form m) (bytes_of form u) s)

-- so many samples, and the ones behind them
pub samples_split : (form : Form) (s : List ℕ) (u m : ℕ) → samples_in form s (u + m) ≡ samples_in form s u ++ samples_in form (drop (bytes_of form u) s) m
unfolding samples_in
samples_split form s u zero = let e : u + zero ≡ u = omega arith in rw (e, append-nil)
samples_split form s u (suc m) =
    let e : u + suc m ≡ suc (u + m) = omega arith in
    rw (e, samples_split form s u m, sample_later form s u m) (append_assoc (samples_in form s u) (samples_in form (drop (bytes_of form u) s) m) (sample_at form (drop (bytes_of form u) s) m ∷ []))

pub samples_behind : (form : Form) (s : List ℕ) (u m : ℕ) → drop u (samples_in form s (u + m)) ≡ samples_in form (drop (bytes_of form u) s) m
samples_behind form s u m = ap (drop u) (samples_split form s u m) ∙ drop_at (samples_in form s u) (samples_in form (drop (bytes_of form u) s) m) u (samples_length form s u)

-- a part of all samples, from the bytes
pub part_is : (form : Form) (s : List ℕ) (u c : ℕ) → bytes_of form (u + c) ≤ length s → part (all_samples form s) u c ≡ samples_in form (drop (bytes_of form u) s) c
unfolding part
part_is form s u c h =
    let n = length s / width form in
    let r = n - (u + c) in
    let held = bytes_count form (u + c) (length s) h in
    let whole : n ≡ u + (c + r) = omega arith in
    let there : u + c ≤ length (all_samples form s) = omega (arith, samples_length form s n) in
    let behind : drop u (all_samples form s) ≡ samples_in form (drop (bytes_of form u) s) (c + r) = ap (λ (k : ℕ). drop u (samples_in form s k)) whole ∙ samples_behind form s u (c + r) in
    pick_true (leb (u + c) (length (all_samples form s))) (take c (drop u (all_samples form s))) [] (le-leb (u + c) (length (all_samples form s)) there)
    ∙ ap (take c) (behind ∙ samples_split form (drop (bytes_of form u) s) c r)
    ∙ take_at (samples_in form (drop (bytes_of form u) s) c) (samples_in form (drop (bytes_of form c) (drop (bytes_of form u) s)) r) c (samples_length form (drop (bytes_of form u) s) c)

-- ---- what is left behind the bytes that were used

pub record Behind (whole : List ℕ) (used : ℕ) (left : List ℕ) : Type 0 where
  pub at : drop used whole ≡ left
  pub most : used ≤ length whole

module _ (whole : List ℕ) (used : ℕ) (left : List ℕ) (b : Behind whole used left) where
  pub behind_length : length whole ≡ used + length left
  behind_length = omega (arith, b.most, ap length (sym b.at) ∙ length-drop used whole)

  pub behind_more : (k : ℕ) → k ≤ length left → Behind whole (used + k) (drop k left)
  behind_more k h = record { at = sym (drop-drop k used whole) ∙ ap (drop k) b.at; most = omega (arith, behind_length) }

  splits : take used whole ++ left ≡ whole
  splits = ap (λ (t : List ℕ). take used whole ++ t) (sym b.at) ∙ take-append-drop used whole

  -- an event is read the same from what is left
  pub entry_here : event_at whole used ≡ event_at left 0
  unfolding event_at
  entry_here = elim (le_or_lt 16 (length left)) [
    | inl there ↦
        ap (λ (w : List ℕ). event_at w used) (sym splits)
        ∙ ap (event_at (take used whole ++ left)) (sym (length-take-le used whole b.most))
        ∙ event_after (take used whole) left there
    | inr short ↦
        pick_false _ _ _ (lt-leb (used + 16) (length whole) (omega (arith, behind_length, short)))
        ∙ sym (pick_false _ _ _ (lt-leb (0 + 16) (length left) (omega (arith, short))))
  ]

-- ---- what is at hand

not_short : (n : ℕ) (ended : Bool) (m : ℕ) → both (not ended) (ltb m n) ≡ false → (n ≤ m) ⊎ (ended ≡ true)
unfolding pick
not_short n true m e = inr refl
not_short n false m e = inl (ltb-false m n e)

module _ (left : List ℕ) (p : Piece) (f : Front left p) where
  pub hand_length : length left ≡ length p.bytes + length f.later
  hand_length = ap length f.joins ∙ length-append p.bytes f.later

  -- the last piece is all that is left
  pub all_there : p.ended ≡ true → left ≡ p.bytes
  all_there e = f.joins ∙ ap (λ (t : List ℕ). p.bytes ++ t) (f.last e) ∙ append-nil p.bytes

  -- so many bytes are at hand, or all that are left
  pub there_or_all : (n : ℕ) → short n p ≡ false → (n ≤ length p.bytes) ⊎ (left ≡ p.bytes)
  there_or_all n e = elim (not_short n p.ended (length p.bytes) e) [
    | inl there ↦ inl there
    | inr ended ↦ inr (all_there ended)
  ]

  pub entry_handed : short 16 p ≡ false → event_at left 0 ≡ event_at p.bytes 0
  entry_handed e = elim (there_or_all 16 e) [
    | inl there ↦ ap (λ (t : List ℕ). event_at t 0) f.joins ∙ event_within p.bytes f.later 0 (omega (arith, there))
    | inr all ↦ ap (λ (t : List ℕ). event_at t 0) all
  ]

  pub header_handed : short (header_length p.bytes) p ≡ false → opened left ≡ opened p.bytes
  header_handed e = elim (there_or_all (header_length p.bytes) e) [
    | inl there ↦ ap opened f.joins ∙ header_within p.bytes f.later there
    | inr all ↦ ap opened all
  ]

  pub samples_handed : (form : Form) (n : ℕ) → bytes_of form n ≤ length p.bytes → samples_in form left n ≡ samples_in form p.bytes n
  samples_handed form n h = ap (λ (t : List ℕ). samples_in form t n) f.joins ∙ samples_within form p.bytes f.later n h

  -- what is left behind used bytes has what is at hand behind them in front
  pub front_past : (k : ℕ) → k ≤ length p.bytes → Front (drop k left) (record { bytes = drop k p.bytes; ended = p.ended })
  front_past k h = record { later = f.later; joins = ap (drop k) f.joins ∙ drop-append-le k p.bytes f.later h; last = f.last }
