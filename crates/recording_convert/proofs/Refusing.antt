-- When a conversion is refused, and that what it names is the first.
use Rattle.std.specs.Prelude.{Option, Some, None}
use mathlib.Core.Path.{◌≡◌, refl, sym, ap, ◌∙◌}
use mathlib.Core.Bool.{Bool, true, false, false≢true}
use mathlib.Core.List.{List}
use Prim.Native.Nat.{ℕ, zero, suc, ◌+◌, ◌<◌}
use native.Mathlib.Omega.{arith}
use Rattle.answers.specs.Pick.{pick, both, pick_false}
use Rattle.answers.proofs.Passed.{both_true}
use Rattle.recording.specs.Recording.{opened}
use Rattle.recording.specs.Samples.{used_up}
use Rattle.recording.specs.declared.Header.{Header}
use Rattle.recording.specs.declared.Used.{Used}
use Rattle.recording_convert.specs.Whole.{Recording, entry_of, used_by, whole_recording}
use Rattle.recording_convert.specs.Converting.{form_from, Sample, Stored, Strange, sample_to, bits_at, Found, Nowhere, Behind, one_later, or_later, first_strange, written, Converting, Unrepresentable, OtherForm, strange_of, side_of, place_on, used_after, unless, convert_from, form_is, converted_as, converted}
use Rattle.recording_convert.specs.declared.Direction.{Direction}
use Rattle.recording_convert.specs.declared.Side.{Side}

-- ---- the first strange sample

one_later_lem : (f : Found) (others : ℕ) → one_later f ≡ Behind others → (before : ℕ) × (f ≡ Behind before) × (others ≡ before + 1)
one_later_lem Nowhere others e = let z : ◌≡◌ {A = ℕ} 0 1 = cc in absurd (omega (arith, z))
one_later_lem (Behind before) others e = let q : before + 1 ≡ others = cc in (before, refl, sym q)

-- sample number k + others is strange, and none of those before it is
pub record First (d : Direction) (s : List ℕ) (k n others : ℕ) : Type 0 where
  pub within : others < n
  pub strange : sample_to d (bits_at (form_from d) s (k + others)) ≡ Strange
  pub fine : (j : ℕ) → j < others → (y : ℕ) × (sample_to d (bits_at (form_from d) s (k + j)) ≡ Stored y)

first_step : (d : Direction) (s : List ℕ) (k n others : ℕ) (x : Sample) (later : Found) → ((before : ℕ) → later ≡ Behind before → First d s (k + 1) n before)
    → sample_to d (bits_at (form_from d) s k) ≡ x → or_later x later ≡ Behind others → First d s k (suc n) others
first_step d s k n others Strange later again e q =
    let z : 0 ≡ others = cc in
    let at : k + others ≡ k = omega (arith, z) in
    record {
      within = omega (arith, z);
      strange = ap (λ (i : ℕ). sample_to d (bits_at (form_from d) s i)) at ∙ e;
      fine = λ j h. absurd (omega (arith, z, h));
    }
first_step d s k n others (Stored y) later again e q =
    let w = one_later_lem later others q in
    let f = again w.0 w.1 in
    let at : k + others ≡ k + 1 + w.0 = omega (arith, w.2) in
    record {
      within = omega (arith, w.2, f.within);
      strange = ap (λ (i : ℕ). sample_to d (bits_at (form_from d) s i)) at ∙ f.strange;
      fine = before y f e w.2;
    }
  where
    before : (y : ℕ) {b : ℕ} → First d s (k + 1) n b → sample_to d (bits_at (form_from d) s k) ≡ Stored y → others ≡ b + 1 → (j : ℕ) → j < others → (v : ℕ) × (sample_to d (bits_at (form_from d) s (k + j)) ≡ Stored v)
    before y f e o zero h = let z : k + zero ≡ k = omega arith in (y, ap (λ (i : ℕ). sample_to d (bits_at (form_from d) s i)) z ∙ e)
    before y f e o (suc j) h =
        let v = f.fine j (omega (arith, h, o)) in
        let z : k + suc j ≡ k + 1 + j = omega arith in
        (v.0, ap (λ (i : ℕ). sample_to d (bits_at (form_from d) s i)) z ∙ v.1)

pub first_is : (d : Direction) (s : List ℕ) (k n others : ℕ) → first_strange d s k n ≡ Behind others → First d s k n others
unfolding first_strange
first_is d s k zero others = λ q. let z : ◌≡◌ {A = ℕ} 0 1 = cc in absurd (omega (arith, z))
first_is d s k (suc n) others = first_step d s k n others (sample_to d (bits_at (form_from d) s k)) (first_strange d s (k + 1) n) (first_is d s (k + 1) n) refl

-- ---- the first event with one: the events before it have none

pub data Reached (d : Direction) (h : Header) (r : Recording) : ℕ → Used → ℕ → Used → Type 0 where
  here : (e : ℕ) (u : Used) → Reached d h r e u e u
  past : (e : ℕ) (u : Used) (number : ℕ) (v : Used) → strange_of d r u (entry_of h.form r e) ≡ Nowhere → Reached d h r (e + 1) (used_after u (used_by h r u (entry_of h.form r e))) number v
      → Reached d h r e u number v

-- event number `number` is the first, sample number `sample` the first of it, and what stands before it is written
pub record Named (d : Direction) (h : Header) (r : Recording) (e : ℕ) (u : Used) (number sample : ℕ) (side : Side) (place : ℕ) (g : Recording) : Type 0 where
  pub used : Used
  pub reached : Reached d h r e u number used
  pub strange : strange_of d r used (entry_of h.form r number) ≡ Behind sample
  pub side_is : side ≡ side_of (entry_of h.form r number)
  pub place_is : place ≡ place_on side used sample
  pub before : g ≡ written d h r number used

module _ (d : Direction) (h : Header) (r : Recording) (number sample : ℕ) (side : Side) (place : ℕ) (g : Recording) where
  abbrev N : ℕ → Used → Type 0
  N e u = Named d h r e u number sample side place g

  named_step : (left e : ℕ) (u : Used) → (convert_from d h r left (e + 1) (used_after u (used_by h r u (entry_of h.form r e))) ≡ Unrepresentable number sample side place g → N (e + 1) (used_after u (used_by h r u (entry_of h.form r e))))
      → (f : Found) → strange_of d r u (entry_of h.form r e) ≡ f
      → unless f (λ (j : ℕ). Unrepresentable e j (side_of (entry_of h.form r e)) (place_on (side_of (entry_of h.form r e)) u j) (written d h r e u)) (convert_from d h r left (e + 1) (used_after u (used_by h r u (entry_of h.form r e))))
      ≡ Unrepresentable number sample side place g → N e u
  named_step left e u again Nowhere s q =
      let n = again q in
      record { used = n.used; reached = past e u number n.used s n.reached; strange = n.strange; side_is = n.side_is; place_is = n.place_is; before = n.before }
  named_step left e u again (Behind others) s q =
      let e-is : e ≡ number = cc in
      let j-is : others ≡ sample = cc in
      let s-is : side_of (entry_of h.form r e) ≡ side = cc in
      let p-is : place_on (side_of (entry_of h.form r e)) u others ≡ place = cc in
      let g-is : written d h r e u ≡ g = cc in
      record {
        used = u;
        reached = rw e-is (here number u);
        strange = ap (λ (k : ℕ). strange_of d r u (entry_of h.form r k)) (sym e-is) ∙ s ∙ ap Behind j-is;
        side_is = sym s-is ∙ ap (λ (k : ℕ). side_of (entry_of h.form r k)) e-is;
        place_is = sym p-is ∙ ap (λ (x : Side). place_on x u others) s-is ∙ ap (place_on side u) j-is;
        before = sym g-is ∙ ap (λ (k : ℕ). written d h r k u) e-is;
      }

  pub names_first : (left e : ℕ) (u : Used) → convert_from d h r left e u ≡ Unrepresentable number sample side place g → N e u
  unfolding convert_from
  names_first zero e u = λ q. let z : ◌≡◌ {A = ℕ} 0 1 = cc in absurd (omega (arith, z))
  names_first (suc left) e u = named_step left e u (names_first left (e + 1) (used_after u (used_by h r u (entry_of h.form r e)))) (strange_of d r u (entry_of h.form r e)) refl

-- ---- refused with 12 exactly where the recording is not whole or of another form

either_way : (f : Found) (strange : ℕ → Converting) (c : Converting) → ((j : ℕ) → strange j ≡ OtherForm → ⊥) → (c ≡ OtherForm → ⊥) → unless f strange c ≡ OtherForm → ⊥
either_way Nowhere strange c never again q = again q
either_way (Behind others) strange c never again q = never others q

never_other : (number sample : ℕ) (side : Side) (place : ℕ) (g : Recording) → Unrepresentable number sample side place g ≡ OtherForm → ⊥
never_other number sample side place g q = let z : ◌≡◌ {A = ℕ} 0 1 = cc in omega (arith, z)

unless_form : (d : Direction) (h : Header) (r : Recording) (left e : ℕ) (u : Used) → convert_from d h r left e u ≡ OtherForm → ⊥
unfolding convert_from
unless_form d h r zero e u = λ q. let z : ◌≡◌ {A = ℕ} 0 1 = cc in omega (arith, z)
unless_form d h r (suc left) e u =
    either_way (strange_of d r u (entry_of h.form r e)) _ _ (λ j q. never_other e j _ _ _ q) (unless_form d h r left (e + 1) (used_after u (used_by h r u (entry_of h.form r e))))

abbrev pub Taken : Direction → Recording → Bool
Taken d r = both (whole_recording r) (form_is (form_from d) (opened r.events))

taken_not_other : (d : Direction) (r : Recording) (o : Option Header) → form_is (form_from d) o ≡ true → converted_as d r o ≡ OtherForm → ⊥
taken_not_other d r None f q = false≢true f
taken_not_other d r (Some h) f q = unless_form d h r h.events 0 (used_up 0 0) q

pub other_if : (d : Direction) (r : Recording) → Taken d r ≡ false → converted d r ≡ OtherForm
unfolding converted
other_if d r f = pick_false (Taken d r) _ _ f

other_by : (d : Direction) (r : Recording) (t : Bool) → Taken d r ≡ t → pick t (converted_as d r (opened r.events)) OtherForm ≡ OtherForm → t ≡ false
unfolding pick
other_by d r true e q = absurd (taken_not_other d r (opened r.events) (both_true (whole_recording r) _ e).1 q)
other_by d r false e q = refl

pub other_only : (d : Direction) (r : Recording) → converted d r ≡ OtherForm → Taken d r ≡ false
unfolding converted
other_only d r q = other_by d r (Taken d r) refl q

-- ---- a conversion that came to its end was taken

taken_by_lem : (d : Direction) (r : Recording) (t : Bool) (c : Converting) → (c ≡ OtherForm → ⊥) → pick t (converted_as d r (opened r.events)) OtherForm ≡ c → (t ≡ true) × (converted_as d r (opened r.events) ≡ c)
unfolding pick
taken_by_lem d r true c no_other q = (refl, q)
taken_by_lem d r false c no_other q = absurd (no_other (sym q))

pub taken : (d : Direction) (r : Recording) (c : Converting) → (c ≡ OtherForm → ⊥) → converted d r ≡ c → (Taken d r ≡ true) × (converted_as d r (opened r.events) ≡ c)
unfolding converted
taken d r c no_other q = taken_by_lem d r (Taken d r) c no_other q
