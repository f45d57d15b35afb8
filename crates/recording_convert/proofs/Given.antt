-- What a conversion gives: the same events, and samples that mean the same.
use Rattle.std.specs.Prelude.{Option, Some, None}
use mathlib.Core.Path.{◌≡◌, refl, sym, ap, ◌∙◌}
use mathlib.Core.Bool.{Bool, true, false}
use mathlib.Core.List.{List, [], ◌∷◌, ◌++◌}
use Prim.Native.Nat.{ℕ, zero, suc, ◌+◌, ◌*◌, ◌^◌, ◌<◌, ◌≤◌}
use native.Mathlib.Omega.{arith}
use lib.Ieee.{Float}
use lib.ListN.{length, take, drop, length-append, length-drop, take-append-drop}
use lib.Seq.{length-take-le, drop-append-add}
use borrow.Author.Tests.{le-leb, leb-true}
use Rattle.answers.specs.Pick.{pick, pick_true}
use Rattle.recording.specs.Bytes.{number_at}
use Rattle.recording.specs.Recording.{offset_of, header_bytes, event_at}
use Rattle.recording.specs.Samples.{width, bytes_of, sample_of, sample_at, samples_in, used_up, supplied, admitted}
use Rattle.recording.specs.declared.Form.{Form}
use Rattle.recording.specs.declared.Form.TheVariants.{Plain, Floats, Shorts}
use Rattle.recording.specs.declared.Header.{Header}
use Rattle.recording.specs.declared.Used.{Used}
use Rattle.recording.specs.declared.Event.{Event}
use Rattle.recording.specs.declared.Event.TheVariants as event
use Rattle.recording.proofs.Theorems.{event_within}
use Rattle.recording.proofs.Forms.{bytes_mono}
use Rattle.recording_convert.specs.Whole.{Recording, lengths_of, entry_of}
use Rattle.recording_convert.specs.Converting.{form_from, form_to, sample_to, bits_at, Stored, stored, as_form, written}
use Rattle.recording_convert.specs.Inputs.{AreBytes}
use Rattle.recording_convert.specs.declared.Direction.{Direction}
use Rattle.recording_convert.proofs.Samples.{Fine, sample_back, stored_reads}
use Rattle.recording_convert.proofs.Numbers.{number_below}
use Rattle.answers.proofs.Passed.{both_true}
use Rattle.recording_convert.proofs.Walk.{Trace, done, one, enough}

-- ---- events

number_after : (n : ℕ) (a s : List ℕ) (at : ℕ) → number_at n (a ++ s) (length a + at) ≡ number_at n s at
unfolding number_at
number_after n a s at = rw (drop-append-add a s at)

event_later : (a s : List ℕ) (at : ℕ) → at + 16 ≤ length s → event_at (a ++ s) (length a + at) ≡ event_at s at
unfolding event_at
event_later a s at h =
    let l : length a + at + 16 ≤ length (a ++ s) = simp length-append (omega (arith, h)) in
    let four : length a + at + 4 ≡ length a + (at + 4) = omega arith in
    let eight : length a + at + 8 ≡ length a + (at + 8) = omega arith in
    rw (le-leb (length a + at + 16) (length (a ++ s)) l, le-leb (at + 16) (length s) h, four, eight, number_after 4 a s at, number_after 4 a s (at + 4), number_after 8 a s (at + 8))

event_dropped : (s : List ℕ) (o at : ℕ) → o + at + 16 ≤ length s → event_at (drop o s) at ≡ event_at s (o + at)
event_dropped s o at h =
    let lo : length (take o s) ≡ o = length-take-le o s (omega (arith, h)) in
    sym (event_later (take o s) (drop o s) at (simp length-drop (omega (arith, h))))
    ∙ ap (λ (k : ℕ). event_at (take o s ++ drop o s) (k + at)) lo
    ∙ ap (λ (t : List ℕ). event_at t (o + at)) (take-append-drop o s)

event_taken : (s : List ℕ) (m at : ℕ) → at + 16 ≤ m → m ≤ length s → event_at (take m s) at ≡ event_at s at
event_taken s m at h l =
    sym (event_within (take m s) (drop m s) at (omega (arith, h, length-take-le m s l))) ∙ ap (λ (t : List ℕ). event_at t at) (take-append-drop m s)

pub header_long : (form : Form) (h : Header) → length (header_bytes (as_form form h)) ≡ offset_of form
header_long Plain h = refl
header_long Floats h = refl
header_long Shorts h = refl

good_there : (t : Bool) (x : Option Event) (k : Event) → pick t x None ≡ Some k → t ≡ true
unfolding pick
good_there true x k e = refl
good_there false x k e = let z : ◌≡◌ {A = ℕ} 0 1 = cc in absurd (omega (arith, z))

good_long : (s : List ℕ) (at : ℕ) (k : Event) → event_at s at ≡ Some k → at + 16 ≤ length s
unfolding event_at
good_long s at k e = leb-true (at + 16) (length s) (good_there _ _ k e)

-- the events of a trace are there
pub trace_long : (d : Direction) (h : Header) (r : Recording) (left e : ℕ) (u w : Used) → Trace d h r left e u w → offset_of h.form + 16 * e ≤ length r.events
    → offset_of h.form + 16 * (e + left) ≤ length r.events
trace_long d h r left e u w (done e₁ u₁) m = omega (arith, m)
trace_long d h r left e u w (one left₁ e₁ u₁ v w₁ k is a s later) m =
    let l = good_long r.events (offset_of h.form + 16 * e₁) k is in
    omega (arith, trace_long d h r left₁ (e₁ + 1) v w₁ later (omega (arith, l)))

-- the same events stand there
pub same_entry : (d : Direction) (h : Header) (r : Recording) (N e : ℕ) (w : Used) → e < N → offset_of h.form + 16 * N ≤ length r.events
    → entry_of (form_to d) (written d h r N w) e ≡ entry_of h.form r e
same_entry d h r N e w less long =
    let a = header_bytes (as_form (form_to d) h) in
    let o = offset_of h.form in
    let t = drop o r.events in
    let there : 16 * N ≤ length t = simp length-drop (omega (arith, long)) in
    let front : 16 * e + 16 ≤ length (take (16 * N) t) = omega (arith, less, length-take-le (16 * N) t there) in
    ap (λ (k : ℕ). event_at (a ++ take (16 * N) t) (k + 16 * e)) (sym (header_long (form_to d) h))
    ∙ event_later a (take (16 * N) t) (16 * e) front
    ∙ event_taken t (16 * N) (16 * e) (omega (arith, less)) there
    ∙ event_dropped r.events o (16 * e) (omega (arith, less, long))

-- ---- samples

module _ (d : Direction) (s : List ℕ) (b : AreBytes s) (W : ℕ) (fine : Fine d s 0 W) (there : bytes_of (form_from d) W ≤ length s) where
  same_sample : (k : ℕ) → k < W → sample_at (form_to d) (stored d s W) k ≡ sample_at (form_from d) s k
  same_sample k h =
      let w = fine k h in
      let z : k ≡ 0 + k = omega arith in
      let is : sample_to d (bits_at (form_from d) s k) ≡ Stored w.0 = ap (λ (i : ℕ). sample_to d (bits_at (form_from d) s i)) z ∙ w.1 in
      let low : bits_at (form_from d) s k < 256 ^ width (form_from d) = number_below s b (width (form_from d)) (bytes_of (form_from d) k) (omega (arith, there, bytes_mono (form_from d) (k + 1) W (omega (arith, h)))) in
      ap (sample_of (form_to d)) (stored_reads d s b W fine there k w.0 h is) ∙ (sample_back d (bits_at (form_from d) s k) w.0 low is).2

  -- they mean the same
  pub same_samples : (n : ℕ) → n ≤ W → samples_in (form_to d) (stored d s W) n ≡ samples_in (form_from d) s n
  unfolding samples_in
  same_samples zero h = refl
  same_samples (suc n) h =
      ap (λ (xs : List Float). xs ++ sample_at (form_to d) (stored d s W) n ∷ []) (same_samples n (omega (arith, h)))
      ∙ ap (λ (x : Float). samples_in (form_from d) s n ++ x ∷ []) (same_sample n (omega (arith, h)))

-- ---- admission

-- where all samples within the totals are stored, what was admitted is admitted
pub same_admission : (d : Direction) (h : Header) (r g : Recording) (u v : Used) (k : Event) → bytes_of (form_to d) h.far ≤ length g.far → bytes_of (form_to d) h.near ≤ length g.near
    → admitted h (lengths_of r) u k ≡ Some v → admitted (as_form (form_to d) h) (lengths_of g) u k ≡ Some v
unfolding admitted
same_admission d h r g u v (event.Far count) far near a =
    let w = enough (supplied h.form (u.far + count) h.far (length r.far)) (used_up (u.far + count) u.near) v a in
    let most = leb-true (u.far + count) h.far (both_true _ _ w.0).0 in
    pick_true _ _ _ (pick_true _ _ _ (le-leb (u.far + count) h.far most) ∙ le-leb (bytes_of (form_to d) (u.far + count)) (length g.far) (omega (arith, far, bytes_mono (form_to d) (u.far + count) h.far most)))
    ∙ ap Some w.1
same_admission d h r g u v (event.Near count first) far near a =
    let w = enough (supplied h.form (u.near + count) h.near (length r.near)) (used_up u.far (u.near + count)) v a in
    let most = leb-true (u.near + count) h.near (both_true _ _ w.0).0 in
    pick_true _ _ _ (pick_true _ _ _ (le-leb (u.near + count) h.near most) ∙ le-leb (bytes_of (form_to d) (u.near + count)) (length g.near) (omega (arith, near, bytes_mono (form_to d) (u.near + count) h.near most)))
    ∙ ap Some w.1
same_admission d h r g u v event.Rearm far near a = a
same_admission d h r g u v event.DiscardNear far near a = a
same_admission d h r g u v event.Unconfident far near a = a
same_admission d h r g u v (event.Interior alignment delay) far near a = a
same_admission d h r g u v (event.Edge alignment delay) far near a = a
same_admission d h r g u v event.Discontinuity far near a = a
