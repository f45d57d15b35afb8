-- A conversion that came to its end: what is known of the recording, and what was given.
use Rattle.std.specs.Prelude.{Option, Some, None}
use mathlib.Core.Path.{◌≡◌, refl, sym, ap, ◌∙◌}
use mathlib.Core.Bool.{true, false≢true}
use Prim.Native.Nat.{ℕ, ◌+◌, ◌*◌, ◌^◌, ◌<◌, ◌≤◌}
use native.Mathlib.Nat.{le_antisymm}
use native.Mathlib.Omega.{arith}
use lib.Dec.{leb}
use lib.ListN.{length, take, drop}
use borrow.Author.Tests.{leb-true}
use Rattle.answers.specs.Numbers.{allowed_rate, allowed_ceiling}
use Rattle.answers.proofs.Passed.{both_true}
use Rattle.recording.specs.Recording.{offset_of, opened}
use Rattle.recording.specs.Samples.{used_up, all_used}
use Rattle.recording.specs.declared.Form.{Form}
use Rattle.recording.specs.declared.Form.TheVariants.{Plain, Floats, Shorts}
use Rattle.recording.specs.declared.Header.{Header}
use Rattle.recording.specs.declared.Used.{Used}
use Rattle.recording.proofs.Theorems.{header_back}
use Rattle.recording.proofs.Forms.{opened_header, opened_allowed, opened_whole}
use Rattle.recording_convert.specs.Whole.{Recording, whole_at, whole_recording}
use Rattle.recording_convert.specs.Converting.{form_from, form_to, as_form, written, Converted, OtherForm, same_form, form_is, converted_as, converted}
use Rattle.recording_convert.specs.Inputs.{AreBytes}
use Rattle.recording_convert.specs.declared.Direction.{Direction}
use Rattle.recording_convert.proofs.Numbers.{number_below}
use Rattle.recording_convert.proofs.Walk.{Trace, trace_of, Stands, at_end}
use Rattle.recording_convert.proofs.Refusing.{taken}
use Rattle.recording_convert.proofs.Given.{trace_long}

abbrev pub totals : Header → Used
totals h = used_up h.far h.near

pub record Came (d : Direction) (r g : Recording) : Type 0 where
  pub header : Header
  pub opens : opened r.events ≡ Some header
  pub form : header.form ≡ form_from d
  pub trace : Trace d header r header.events 0 (used_up 0 0) (totals header)
  pub stands : Stands d header r (totals header)
  pub is : written d header r header.events (totals header) ≡ g
  pub long : offset_of header.form + 16 * header.events ≤ length r.events

same_form_lem : (a b : Form) → same_form a b ≡ true → b ≡ a
same_form_lem Plain Plain e = refl
same_form_lem Plain Floats e = absurd (false≢true e)
same_form_lem Plain Shorts e = absurd (false≢true e)
same_form_lem Floats Plain e = absurd (false≢true e)
same_form_lem Floats Floats e = refl
same_form_lem Floats Shorts e = absurd (false≢true e)
same_form_lem Shorts Plain e = absurd (false≢true e)
same_form_lem Shorts Floats e = absurd (false≢true e)
same_form_lem Shorts Shorts e = refl

no_fine : (d : Direction) (h : Header) (r : Recording) → Stands d h r (used_up 0 0)
no_fine d h r = record {
  far_fine = λ j l. absurd (omega (arith, l));
  near_fine = λ j l. absurd (omega (arith, l));
  far_most = omega arith;
  near_most = omega arith;
  far_there = omega arith;
  near_there = omega arith;
}

all_used_lem : (h : Header) (w : Used) → all_used h w ≡ true → w.far ≤ h.far → w.near ≤ h.near → w ≡ totals h
unfolding all_used
all_used_lem h w e f n =
    let t = both_true (leb h.far w.far) _ e in
    let far : w.far ≡ h.far = le_antisymm f (leb-true h.far w.far t.0) in
    let near : w.near ≡ h.near = le_antisymm n (leb-true h.near w.near t.1) in
    ap (λ (k : ℕ). used_up k w.near) far ∙ ap (λ (k : ℕ). used_up h.far k) near

came_from : (d : Direction) (r g : Recording) (o : Option Header) → opened r.events ≡ o → whole_at r o ≡ true → form_is (form_from d) o ≡ true → converted_as d r o ≡ Converted g → Came d r g
came_from d r g None e w f q = absurd (false≢true w)
came_from d r g (Some h) e w f q =
    let t = trace_of d h r g h.events 0 (used_up 0 0) w q in
    let st = at_end d h r h.events 0 (used_up 0 0) t.0 t.1 (no_fine d h r) in
    let end : t.0 ≡ totals h = all_used_lem h t.0 t.2 st.far_most st.near_most in
    let z : 0 + h.events ≡ h.events = omega arith in
    let first : offset_of h.form + 16 * 0 ≤ length r.events = omega (arith, opened_whole r.events h e) in
    record {
      header = h;
      opens = e;
      form = same_form_lem (form_from d) h.form f;
      trace = rw end at t.1;
      stands = rw end at st;
      is = ap (λ (k : ℕ). written d h r k (totals h)) (sym z) ∙ ap (written d h r (0 + h.events)) (sym end) ∙ t.3;
      long = omega (arith, trace_long d h r h.events 0 (used_up 0 0) t.0 t.1 first);
    }

not_other : (g : Recording) → Converted g ≡ OtherForm → ⊥
not_other g q = let z : ◌≡◌ {A = ℕ} 0 1 = cc in omega (arith, z)

pub came : (d : Direction) (r g : Recording) → converted d r ≡ Converted g → Came d r g
unfolding whole_recording
came d r g q =
    let t = taken d r (Converted g) (not_other g) q in
    let w = both_true (whole_recording r) _ t.0 in
    came_from d r g (opened r.events) refl w.0 w.1 t.1

-- ---- the header that is given opens

pub given_opens : (d : Direction) (r g : Recording) (c : Came d r g) → AreBytes r.events → opened g.events ≡ Some (as_form (form_to d) c.header)
given_opens d r g c b =
    let h = c.header in
    let s = r.events in
    let head = opened_header s h c.opens in
    let t = both_true (allowed_rate h.rate) (allowed_ceiling h.ceiling) (opened_allowed s h c.opens) in
    let whole-24 : 24 ≤ length s = least h.form (opened_whole s h c.opens) in
    let events : h.events < 2 ^ 32 = rw (ap (λ (k : Header). k.events) head) at (number_below s b 4 8 (omega (arith, whole-24))) in
    let far : h.far < 2 ^ 32 = rw (ap (λ (k : Header). k.far) head) at (number_below s b 4 16 (omega (arith, whole-24))) in
    let near : h.near < 2 ^ 32 = rw (ap (λ (k : Header). k.near) head) at (number_below s b 4 20 (omega (arith, whole-24))) in
    ap (λ (x : Recording). opened x.events) (sym c.is)
    ∙ header_back (as_form (form_to d) h) (take (16 * h.events) (drop (offset_of h.form) s)) t.0 t.1 events far near
  where
    least : (form : Form) → offset_of form ≤ length r.events → 24 ≤ length r.events
    least Plain m = m
    least Floats m = omega (arith, m)
    least Shorts m = omega (arith, m)
