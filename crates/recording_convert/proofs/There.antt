-- There and back gives the same bytes, up to the end that the header announces.
use Rattle.std.specs.Prelude.{Option, Some, None}
use mathlib.Core.Path.{◌≡◌, refl, sym, ap, ◌∙◌, subst}
use mathlib.Core.Bool.{Bool, true, false}
use mathlib.Core.List.{List, ◌++◌, append-nil}
use Prim.Native.Nat.{ℕ, ◌+◌, ◌*◌, ◌<◌, ◌≤◌}
use native.Mathlib.Nat.{le_refl}
use native.Mathlib.Omega.{arith}
use lib.Dec.{leb, eqb}
use lib.ListN.{length, take, drop}
use lib.Seq.{take-add, take-take, drop_at}
use borrow.Author.Tests.{le-leb, leb-true, eqb-true}
use Rattle.answers.specs.Pick.{pick, both, pick_true, pick_case}
use Rattle.answers.proofs.Passed.{both_true}
use Rattle.recording.specs.Bytes.{bytes}
use Rattle.recording.specs.Recording.{u32_at, offset_of, shape_at, header_at, headed, opened, header_bytes}
use Rattle.recording.specs.Samples.{bytes_of, used_up, supplied, admitted, all_used}
use Rattle.recording.specs.declared.Form.{Form}
use Rattle.recording.specs.declared.Form.TheVariants.{Plain, Floats, Shorts}
use Rattle.recording.specs.declared.Header.{Header}
use Rattle.recording.specs.declared.Used.{Used}
use Rattle.recording.specs.declared.Event.{Event}
use Rattle.recording.specs.declared.Event.TheVariants as event
use Rattle.recording.proofs.Forms.{opened_header, opened_whole}
use Rattle.recording_convert.specs.Whole.{Recording, lengths_of, entry_of, used_by, then_whole, whole_from, whole_at, whole_recording}
use Rattle.recording_convert.specs.Converting.{form_from, form_to, back, sample_to, bits_at, Stored, stored, Found, Nowhere, as_form, written, Converting, Converted, Unrepresentable, strange_of, side_of, place_on, used_after, unless, convert_from, same_form, form_is, converted_as, converted, announced_by, announced}
use Rattle.recording_convert.specs.Inputs.{AreBytes, OfBytes}
use Rattle.recording_convert.specs.declared.Direction.{Direction}
use Rattle.recording_convert.specs.declared.Direction.TheVariants.{ToFloats, ToShorts}
use Rattle.recording_convert.proofs.Numbers.{bytes_again}
use Rattle.recording_convert.proofs.Samples.{Fine, sample_back, none_strange, stored_length, stored_reads, stored_again, below}
use Rattle.recording_convert.proofs.Walk.{Trace, done, one, enough}
use Rattle.recording_convert.proofs.Given.{header_long, same_entry, same_admission}
use Rattle.recording_convert.proofs.Came.{totals, Came, came, given_opens}

-- ---- the bytes of a header that opens

opened_for : (t : Bool) (x : Option Header) (h : Header) → pick t x None ≡ Some h → x ≡ Some h
unfolding pick
opened_for true x h e = e
opened_for false x h e = let z : ◌≡◌ {A = ℕ} 0 1 = cc in absurd (omega (arith, z))

headed_for : (s : List ℕ) (x : Option Form) (h : Header) → headed s x ≡ Some h → x ≡ Some h.form
headed_for s (Some form) h e = let q : header_at form s ≡ h = cc in ap (λ (k : Header). Some k.form) q
headed_for s None h e = let z : ◌≡◌ {A = ℕ} 0 1 = cc in absurd (omega (arith, z))

opened_shape : (s : List ℕ) (h : Header) → opened s ≡ Some h → shape_at s ≡ Some h.form
unfolding opened
opened_shape s h q = headed_for s (shape_at s) h (opened_for _ (headed s (shape_at s)) h q)

abbrev Told : List ℕ → Form → Type 0
Told s Plain = u32_at s 12 ≡ 24
Told s Floats = (u32_at s 12 ≡ 28) × (u32_at s 24 ≡ 1)
Told s Shorts = (u32_at s 12 ≡ 28) × (u32_at s 24 ≡ 2)

told : (s : List ℕ) (form : Form) → shape_at s ≡ Some form → Told s form
unfolding shape_at
told s form =
    pick_case (λ (x : Option Form). x ≡ Some form → Told s form) (eqb (u32_at s 12) 24) _ _
    (λ t e. let q : Plain ≡ form = cc in subst (Told s) q (eqb-true (u32_at s 12) 24 t))
    (λ t. pick_case (λ (x : Option Form). x ≡ Some form → Told s form) (both (eqb (u32_at s 12) 28) (leb 28 (length s))) _ _
    (λ b. let at = eqb-true (u32_at s 12) 28 (both_true (eqb (u32_at s 12) 28) _ b).0 in
    pick_case (λ (x : Option Form). x ≡ Some form → Told s form) (eqb (u32_at s 24) 1) _ _
    (λ k e. let q : Floats ≡ form = cc in subst (Told s) q (at, eqb-true (u32_at s 24) 1 k))
    (λ k. pick_case (λ (x : Option Form). x ≡ Some form → Told s form) (eqb (u32_at s 24) 2) _ _
    (λ l e. let q : Shorts ≡ form = cc in subst (Told s) q (at, eqb-true (u32_at s 24) 2 l))
    (λ l e. let z : ◌≡◌ {A = ℕ} 0 1 = cc in absurd (omega (arith, z)))))
    (λ b e. let z : ◌≡◌ {A = ℕ} 0 1 = cc in absurd (omega (arith, z))))

module _ (s : List ℕ) (b : AreBytes s) where
  join : (front : List ℕ) (n v : ℕ) → front ≡ take n s → u32_at s n ≡ v → n + 4 ≤ length s → front ++ bytes 4 v ≡ take (n + 4) s
  join front n v e q h =
      ap (λ (t : List ℕ). t ++ bytes 4 v) e
      ∙ ap (λ (k : ℕ). take n s ++ bytes 4 k) (sym q)
      ∙ ap (λ (t : List ℕ). take n s ++ t) (bytes_again s b 4 n h)
      ∙ sym (take-add n 4 s)

  six : (offset : ℕ) → u32_at s 12 ≡ offset → 24 ≤ length s
      → bytes 4 (u32_at s 0) ++ bytes 4 (u32_at s 4) ++ bytes 4 (u32_at s 8) ++ bytes 4 offset ++ bytes 4 (u32_at s 16) ++ bytes 4 (u32_at s 20) ≡ take 24 s
  six offset q h =
      join _ 20 (u32_at s 20)
      (join _ 16 (u32_at s 16)
      (join _ 12 offset
      (join _ 8 (u32_at s 8)
      (join _ 4 (u32_at s 4) (bytes_again s b 4 0 (omega (arith, h))) refl (omega (arith, h)))
      refl (omega (arith, h)))
      q (omega (arith, h)))
      refl (omega (arith, h)))
      refl (omega (arith, h))

  again : (form : Form) → Told s form → offset_of form ≤ length s → header_bytes (header_at form s) ≡ take (offset_of form) s
  again Plain t h = append-nil _ ∙ six 24 t h
  again Floats t h = join _ 24 1 (six 28 t.0 (omega (arith, h))) t.1 h
  again Shorts t h = join _ 24 2 (six 28 t.0 (omega (arith, h))) t.1 h

  header_again : (h : Header) → opened s ≡ Some h → header_bytes h ≡ take (offset_of h.form) s
  header_again h q = ap header_bytes (sym (opened_header s h q)) ∙ again h.form (told s h.form (opened_shape s h q)) (opened_whole s h q)

-- ---- samples that were converted can be converted back

back_from : (c : Direction) → form_from (back c) ≡ form_to c
back_from ToFloats = refl
back_from ToShorts = refl

back_to : (c : Direction) → form_to (back c) ≡ form_from c
back_to ToFloats = refl
back_to ToShorts = refl

same_form_lem : (f : Form) → same_form f f ≡ true
same_form_lem Plain = refl
same_form_lem Floats = refl
same_form_lem Shorts = refl

fine_back : (d : Direction) (s : List ℕ) (W : ℕ) → AreBytes s → Fine d s 0 W → bytes_of (form_from d) W ≤ length s → (k : ℕ) → k < W → (y : ℕ) × (sample_to (back d) (bits_at (form_from (back d)) (stored d s W) k) ≡ Stored y)
fine_back d s W b fine there k h =
    let w = fine k h in
    let z : k ≡ 0 + k = omega arith in
    let x = bits_at (form_from d) s k in
    let is : sample_to d x ≡ Stored w.0 = ap (λ (i : ℕ). sample_to d (bits_at (form_from d) s i)) z ∙ w.1 in
    let bits : bits_at (form_from (back d)) (stored d s W) k ≡ w.0 = ap (λ (g : Form). bits_at g (stored d s W) k) (back_from d) ∙ stored_reads d s b W fine there k w.0 h is in
    (x, ap (sample_to (back d)) bits ∙ (sample_back d x w.0 (below d s b k W h there) is).0)

module _ (d : Direction) (r g : Recording) (b : OfBytes r) (c : Came d r g) where
  abbrev h : Header
  h = c.header

  abbrev h' : Header
  h' = as_form (form_to d) h

  abbrev x : Recording
  x = written d h r h.events (totals h)

  far_there : bytes_of (form_from d) h.far ≤ length r.far
  far_there = rw c.form at c.stands.far_there

  near_there : bytes_of (form_from d) h.near ≤ length r.near
  near_there = rw c.form at c.stands.near_there

  far_long : bytes_of (form_to d) h.far ≤ length x.far
  far_long = omega (arith, stored_length d r.far h.far c.stands.far_fine)

  near_long : bytes_of (form_to d) h.near ≤ length x.near
  near_long = omega (arith, stored_length d r.near h.near c.stands.near_fine)

  none_back : (u v : Used) (k : Event) → admitted h (lengths_of r) u k ≡ Some v → strange_of (back d) x u (Some k) ≡ Nowhere
  unfolding admitted
  none_back u v (event.Far count) a =
      let w = enough (supplied h.form (u.far + count) h.far (length r.far)) (used_up (u.far + count) u.near) v a in
      let most = leb-true (u.far + count) h.far (both_true (leb (u.far + count) h.far) _ w.0).0 in
      none_strange (back d) x.far u.far count (λ j l. fine_back d r.far h.far b.far c.stands.far_fine far_there (u.far + j) (omega (arith, most, l)))
  none_back u v (event.Near count first) a =
      let w = enough (supplied h.form (u.near + count) h.near (length r.near)) (used_up u.far (u.near + count)) v a in
      let most = leb-true (u.near + count) h.near (both_true (leb (u.near + count) h.near) _ w.0).0 in
      none_strange (back d) x.near u.near count (λ j l. fine_back d r.near h.near b.near c.stands.near_fine near_there (u.near + j) (omega (arith, most, l)))
  none_back u v event.Rearm a = refl
  none_back u v event.DiscardNear a = refl
  none_back u v event.Unconfident a = refl
  none_back u v (event.Interior alignment delay) a = refl
  none_back u v (event.Edge alignment delay) a = refl
  none_back u v event.Discontinuity a = refl

  -- ---- what was given is whole, and is converted to its end

  whole_back : (left e : ℕ) (u w : Used) → Trace d h r left e u w → e + left ≡ h.events → all_used h' w ≡ true → whole_from h' x left e u ≡ true
  unfolding whole_from
  whole_back left e u w (done e₁ u₁) z all = all
  whole_back left e u w (one left₁ e₁ u₁ v w₁ k is a strange later) z all =
      let here : entry_of (form_to d) x e₁ ≡ Some k = same_entry d h r h.events e₁ (totals h) (omega (arith, z)) c.long ∙ is in
      ap (λ (n : Option Event). then_whole (used_by h' x u₁ n) (λ (y : Used). whole_from h' x left₁ (e₁ + 1) y)) here
      ∙ ap (λ (n : Option Used). then_whole n (λ (y : Used). whole_from h' x left₁ (e₁ + 1) y)) (same_admission d h r x u₁ v k far_long near_long a)
      ∙ whole_back left₁ (e₁ + 1) v w₁ later (omega (arith, z)) all

  convert_back : (left e : ℕ) (u w : Used) → Trace d h r left e u w → e + left ≡ h.events → convert_from (back d) h' x left e u ≡ Converted (written (back d) h' x h.events w)
  unfolding convert_from
  convert_back left e u w (done e₁ u₁) z = let n : e₁ ≡ h.events = omega (arith, z) in ap (λ (k : ℕ). Converted (written (back d) h' x k u₁)) n
  convert_back left e u w (one left₁ e₁ u₁ v w₁ k is a strange later) z =
      let here : entry_of (form_to d) x e₁ ≡ Some k = same_entry d h r h.events e₁ (totals h) (omega (arith, z)) c.long ∙ is in
      let fails : Option Event → ℕ → Converting = λ n j. Unrepresentable e₁ j (side_of n) (place_on (side_of n) u₁ j) (written (back d) h' x e₁ u₁) in
      let onwards : Option Used → Converting = λ n. convert_from (back d) h' x left₁ (e₁ + 1) (used_after u₁ n) in
      ap (λ (n : Option Event). unless (strange_of (back d) x u₁ n) (fails n) (onwards (used_by h' x u₁ n))) here
      ∙ ap (λ (f : Found). unless f (fails (Some k)) (onwards (used_by h' x u₁ (Some k)))) (none_back u₁ v k a)
      ∙ ap onwards (same_admission d h r x u₁ v k far_long near_long a)
      ∙ convert_back left₁ (e₁ + 1) v w₁ later (omega (arith, z))

  -- ---- and has the bytes that it had

  all_totals : all_used h' (totals h) ≡ true
  unfolding all_used
  all_totals = pick_true _ _ _ (le-leb h.far h.far (le_refl h.far)) ∙ le-leb h.near h.near (le_refl h.near)

  same_header : as_form (form_to (back d)) h' ≡ h
  same_header = ap (λ (f : Form). as_form f h) (back_to d ∙ sym c.form)

  events_back : header_bytes (as_form (form_to (back d)) h') ++ take (16 * h.events) (drop (offset_of (form_to d)) x.events) ≡ take (offset_of h.form + 16 * h.events) r.events
  events_back =
      let o = offset_of h.form in
      let m = 16 * h.events in
      let t = take m (drop o r.events) in
      ap (λ (k : Header). header_bytes k ++ take m (drop (offset_of (form_to d)) x.events)) same_header
      ∙ ap (λ (s : List ℕ). header_bytes h ++ take m s) (drop_at (header_bytes h') t (offset_of (form_to d)) (header_long (form_to d) h))
      ∙ ap (λ (s : List ℕ). header_bytes h ++ s) (take-take m m (drop o r.events) (le_refl m))
      ∙ ap (λ (s : List ℕ). s ++ t) (header_again r.events b.events h c.opens)
      ∙ sym (take-add o m r.events)

  far_back : stored (back d) x.far h.far ≡ take (bytes_of h.form h.far) r.far
  far_back = stored_again d r.far b.far h.far c.stands.far_fine far_there ∙ ap (λ (f : Form). take (bytes_of f h.far) r.far) (sym c.form)

  near_back : stored (back d) x.near h.near ≡ take (bytes_of h.form h.near) r.near
  near_back = stored_again d r.near b.near h.near c.stands.near_fine near_there ∙ ap (λ (f : Form). take (bytes_of f h.near) r.near) (sym c.form)

  same_bytes : written (back d) h' x h.events (totals h) ≡ announced_by r (Some h)
  same_bytes = rw (events_back, far_back, near_back)

  came_back : converted (back d) g ≡ Converted (announced r)
  unfolding converted announced whole_recording
  came_back =
      let opens : opened x.events ≡ Some h' = ap (λ (y : Recording). opened y.events) c.is ∙ given_opens d r g c b.events in
      let N = h.events in
      let is_whole : whole_at x (Some h') ≡ true = whole_back N 0 (used_up 0 0) (totals h) c.trace (omega arith) all_totals in
      let is-form : form_is (form_from (back d)) (Some h') ≡ true = ap (λ (f : Form). same_form f (form_to d)) (back_from d) ∙ same_form_lem (form_to d) in
      let taken : both (whole_at x (opened x.events)) (form_is (form_from (back d)) (opened x.events)) ≡ true =
      ap (λ (o : Option Header). both (whole_at x o) (form_is (form_from (back d)) o)) opens ∙ pick_true _ _ _ is_whole ∙ is-form in
      ap (converted (back d)) (sym c.is)
      ∙ pick_true _ _ _ taken
      ∙ ap (converted_as (back d) x) opens
      ∙ convert_back N 0 (used_up 0 0) (totals h) c.trace (omega arith)
      ∙ ap Converted same_bytes
      ∙ ap (λ (o : Option Header). Converted (announced_by r o)) (sym c.opens)

-- Converted one way and then the other, a recording comes back, up to the end that its header announces.
pub there_and_back : (d : Direction) (r g : Recording) → OfBytes r → converted d r ≡ Converted g → converted (back d) g ≡ Converted (announced r)
there_and_back d r g b q = came_back d r g b (came d r g q)
