-- A conversion that came to its end: event by event, each good, admitted and without a strange sample.
use Rattle.std.specs.Prelude.{Option, Some, None}
use mathlib.Core.Path.{◌≡◌, refl, ap, ◌∙◌}
use mathlib.Core.Bool.{Bool, true, false, false≢true}
use mathlib.Core.List.{List}
use mathlib.Core.Logic.{inl, inr}
use Prim.Native.Nat.{ℕ, zero, suc, ◌+◌, ◌-◌, ◌≤◌}
use native.Mathlib.Omega.{arith}
use lib.Dec.{leb}
use lib.ListN.{length}
use borrow.Author.Tests.{leb-true}
use Rattle.answers.specs.Pick.{pick}
use Rattle.answers.proofs.Passed.{both_true}
use Rattle.floats.proofs.Compare.{le_or_lt}
use Rattle.recording.specs.Samples.{bytes_of, used_up, supplied, admitted, all_used}
use Rattle.recording.specs.declared.Header.{Header}
use Rattle.recording.specs.declared.Used.{Used}
use Rattle.recording.specs.declared.Event.{Event}
use Rattle.recording.specs.declared.Event.TheVariants as event
use Rattle.recording_convert.specs.Whole.{Recording, lengths_of, entry_of, used_by, then_whole, whole_from}
use Rattle.recording_convert.specs.Converting.{form_from, sample_to, bits_at, Found, Nowhere, Behind, written, Converting, Converted, Unrepresentable, strange_of, side_of, place_on, used_after, unless, convert_from}
use Rattle.recording_convert.specs.declared.Direction.{Direction}
use Rattle.recording_convert.proofs.Samples.{Fine, fine_of}

pub data Trace (d : Direction) (h : Header) (r : Recording) : ℕ → ℕ → Used → Used → Type 0 where
  done : (e : ℕ) (u : Used) → Trace d h r zero e u u
  one : (left e : ℕ) (u v w : Used) (k : Event) → entry_of h.form r e ≡ Some k → admitted h (lengths_of r) u k ≡ Some v → strange_of d r u (Some k) ≡ Nowhere
      → Trace d h r left (e + 1) v w → Trace d h r (suc left) e u w

module _ (d : Direction) (h : Header) (r : Recording) (g : Recording) where
  abbrev Ends : ℕ → ℕ → Used → Type 0
  Ends left e u = (w : Used) × Trace d h r left e u w × (all_used h w ≡ true) × (written d h r (e + left) w ≡ g)

  -- the events behind number e are given
  module _ (left e : ℕ) (u : Used) (again : (v : Used) → whole_from h r left (e + 1) v ≡ true → convert_from d h r left (e + 1) v ≡ Converted g → Ends left (e + 1) v) where
    abbrev later : Used → Bool
    later v = whole_from h r left (e + 1) v

    abbrev fails : Option Event → ℕ → Converting
    fails k sample = Unrepresentable e sample (side_of k) (place_on (side_of k) u sample) (written d h r e u)

    finds : (k : Event) → entry_of h.form r e ≡ Some k → (v : Used) → admitted h (lengths_of r) u k ≡ Some v → later v ≡ true → (f : Found)
        → strange_of d r u (Some k) ≡ f → unless f (fails (Some k)) (convert_from d h r left (e + 1) v) ≡ Converted g → Ends (suc left) e u
    finds k is v a p (Behind others) s q = let z : ◌≡◌ {A = ℕ} 0 1 = cc in absurd (omega (arith, z))
    finds k is v a p Nowhere s q =
        let t = again v p q in
        let z : e + suc left ≡ e + 1 + left = omega arith in
        (t.0, one left e u v t.0 k is a s t.1, t.2, ap (λ (n : ℕ). written d h r n t.0) z ∙ t.3)

    admits : (k : Event) → entry_of h.form r e ≡ Some k → (a : Option Used) → admitted h (lengths_of r) u k ≡ a → then_whole a later ≡ true
        → unless (strange_of d r u (Some k)) (fails (Some k)) (convert_from d h r left (e + 1) (used_after u a)) ≡ Converted g → Ends (suc left) e u
    admits k is None a p q = absurd (false≢true p)
    admits k is (Some v) a p q = finds k is v a p (strange_of d r u (Some k)) refl q

    entries : (k : Option Event) → entry_of h.form r e ≡ k → then_whole (used_by h r u k) later ≡ true
        → unless (strange_of d r u k) (fails k) (convert_from d h r left (e + 1) (used_after u (used_by h r u k))) ≡ Converted g → Ends (suc left) e u
    entries None is p q = absurd (false≢true p)
    entries (Some k) is p q = admits k is (admitted h (lengths_of r) u k) refl p q

  pub trace_of : (left e : ℕ) (u : Used) → whole_from h r left e u ≡ true → convert_from d h r left e u ≡ Converted g → Ends left e u
  unfolding whole_from convert_from
  trace_of zero e u p q =
      let z : e + zero ≡ e = omega arith in
      let same : written d h r e u ≡ g = cc in
      (u, done e u, p, ap (λ (k : ℕ). written d h r k u) z ∙ same)
  trace_of (suc left) e u p q = entries left e u (trace_of left (e + 1)) (entry_of h.form r e) refl p q

-- ---- what is known where it stands

pub record Stands (d : Direction) (h : Header) (r : Recording) (u : Used) : Type 0 where
  pub far_fine : Fine d r.far 0 u.far
  pub near_fine : Fine d r.near 0 u.near
  pub far_most : u.far ≤ h.far
  pub near_most : u.near ≤ h.near
  pub far_there : bytes_of h.form u.far ≤ length r.far
  pub near_there : bytes_of h.form u.near ≤ length r.near

more_fine : (d : Direction) (s : List ℕ) (u c : ℕ) → Fine d s 0 u → Fine d s u c → Fine d s 0 (u + c)
more_fine d s u c f g j h = elim (le_or_lt u j) [
  | inl a ↦
      let w = g (j - u) (omega (arith, h, a)) in
      let z : 0 + j ≡ u + (j - u) = omega (arith, a) in
      (w.0, ap (λ (i : ℕ). sample_to d (bits_at (form_from d) s i)) z ∙ w.1)
  | inr b ↦ f j b
]

pub enough : (t : Bool) (v u : Used) → pick t (Some v) None ≡ Some u → (t ≡ true) × (v ≡ u)
unfolding pick
enough true v u e = (refl, cc)
enough false v u e = let z : ◌≡◌ {A = ℕ} 0 1 = cc in absurd (omega (arith, z))

module _ (d : Direction) (h : Header) (r : Recording) where
  stays : (u v : Used) → Some u ≡ Some v → Stands d h r u → Stands d h r v
  stays u v q st = let same : u ≡ v = cc in rw same at st

  pub behind_event : (u v : Used) (k : Event) → admitted h (lengths_of r) u k ≡ Some v → strange_of d r u (Some k) ≡ Nowhere → Stands d h r u → Stands d h r v
  unfolding admitted
  behind_event u v (event.Far count) a s st =
      let w = enough (supplied h.form (u.far + count) h.far (length r.far)) (used_up (u.far + count) u.near) v a in
      let t = both_true (leb (u.far + count) h.far) _ w.0 in
      let there = leb-true (bytes_of h.form (u.far + count)) (length r.far) t.1 in
      let now : Stands d h r (used_up (u.far + count) u.near) = record {
        far_fine = more_fine d r.far u.far count st.far_fine (fine_of d r.far u.far count s);
        near_fine = st.near_fine;
        far_most = leb-true (u.far + count) h.far t.0;
        near_most = st.near_most;
        far_there = there;
        near_there = st.near_there;
      } in
      rw w.1 at now
  behind_event u v (event.Near count first) a s st =
      let w = enough (supplied h.form (u.near + count) h.near (length r.near)) (used_up u.far (u.near + count)) v a in
      let t = both_true (leb (u.near + count) h.near) _ w.0 in
      let there = leb-true (bytes_of h.form (u.near + count)) (length r.near) t.1 in
      let now : Stands d h r (used_up u.far (u.near + count)) = record {
        far_fine = st.far_fine;
        near_fine = more_fine d r.near u.near count st.near_fine (fine_of d r.near u.near count s);
        far_most = st.far_most;
        near_most = leb-true (u.near + count) h.near t.0;
        far_there = st.far_there;
        near_there = there;
      } in
      rw w.1 at now
  behind_event u v event.Rearm a s st = stays u v a st
  behind_event u v event.DiscardNear a s st = stays u v a st
  behind_event u v event.Unconfident a s st = stays u v a st
  behind_event u v (event.Interior alignment delay) a s st = stays u v a st
  behind_event u v (event.Edge alignment delay) a s st = stays u v a st
  behind_event u v event.Discontinuity a s st = stays u v a st

  pub at_end : (left e : ℕ) (u w : Used) → Trace d h r left e u w → Stands d h r u → Stands d h r w
  at_end left e u w (done e₁ u₁) st = st
  at_end left e u w (one left₁ e₁ u₁ v w₁ k is a s later) st = at_end left₁ (e₁ + 1) v w₁ later (behind_event u₁ v k a s st)
