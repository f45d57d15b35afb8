-- A recording and what it is converted to have one log: the same events, and samples that are the same floats.
use Rattle.std.specs.Prelude.{Option, Some}
use mathlib.Core.Path.{◌≡◌, refl, sym, ap, ◌∙◌}
use mathlib.Core.List.{List, [], ◌∷◌, ◌++◌}
use Prim.Native.Nat.{ℕ, ◌+◌, ◌≤◌}
use native.Mathlib.Omega.{arith}
use lib.Dec.{leb}
use lib.ListN.{length, drop}
use borrow.Author.Tests.{leb-true}
use Rattle.answers.specs.Pick.{pick}
use Rattle.answers.proofs.Passed.{both_true}
use Rattle.scan.specs.Bins.{geometry_of}
use Rattle.scan.specs.State.{Buffers}
use Rattle.log_lines.specs.declared.Line.{Line}
use Rattle.log_lines.specs.declared.Line.TheVariants as line
use Rattle.recording.specs.Samples.{bytes_of, part, samples_of, used_up, supplied, admitted, all_used}
use Rattle.recording.specs.declared.Form.{Form}
use Rattle.recording.specs.declared.Header.{Header}
use Rattle.recording.specs.declared.Used.{Used}
use Rattle.recording.specs.declared.Event.{Event}
use Rattle.recording.specs.declared.Event.TheVariants as event
use Rattle.recording.proofs.Forms.{bytes_mono}
use Rattle.recording_convert.specs.Whole.{Recording, lengths_of}
use Rattle.recording_convert.specs.Converting.{form_from, form_to, stored, as_form, written, Converted, converted}
use Rattle.recording_convert.specs.Inputs.{AreBytes, OfBytes}
use Rattle.recording_convert.specs.declared.Direction.{Direction}
use Rattle.recording_convert.proofs.Samples.{Fine, stored_length}
use Rattle.recording_convert.proofs.Walk.{Trace, done, one, enough}
use Rattle.recording_convert.proofs.Given.{same_entry, same_samples, same_admission}
use Rattle.recording_convert.proofs.Came.{totals, Came, came, given_opens}
use Rattle.replay.specs.Events.{Play, with_used, event_played, after_admission, stepped}
use Rattle.replay.specs.Log.{Inputs, inputs, all_samples, samples_for, event_number, step_at, closing, lines_from, started, log_of, new_session, clear_buffers}
use Rattle.replay.specs.declared.Session.{Session}
use Rattle.replay_stream.proofs.Fronts.{samples_behind, part_is}
use Rattle.replay_convert.proofs.Structure.{event_good}

-- ---- the samples of an event

part_same : (d : Direction) (s : List ℕ) (W u c : ℕ) → AreBytes s → Fine d s 0 W → bytes_of (form_from d) W ≤ length s → u + c ≤ W
    → part (all_samples (form_to d) (stored d s W)) u c ≡ part (all_samples (form_from d) s) u c
part_same d s W u c b fine there most =
    let T = stored d s W in
    let long = stored_length d s W fine in
    part_is (form_to d) T u c (omega (arith, long, bytes_mono (form_to d) (u + c) W most))
    ∙ sym (samples_behind (form_to d) T u c)
    ∙ ap (drop u) (same_samples d s b W fine there (u + c) most)
    ∙ samples_behind (form_from d) s u c
    ∙ sym (part_is (form_from d) s u c (omega (arith, there, bytes_mono (form_from d) (u + c) W most)))

module _ (d : Direction) (r g : Recording) (b : OfBytes r) (c : Came d r g) where
  abbrev h : Header
  h = c.header

  abbrev h' : Header
  h' = as_form (form_to d) h

  abbrev x : Recording
  x = written d h r h.events (totals h)

  abbrev i : Inputs
  i = inputs h.form r.events r.far r.near

  abbrev i' : Inputs
  i' = inputs (form_to d) x.events x.far x.near

  far_there : bytes_of (form_from d) h.far ≤ length r.far
  far_there = rw c.form at c.stands.far_there

  near_there : bytes_of (form_from d) h.near ≤ length r.near
  near_there = rw c.form at c.stands.near_there

  far_long : bytes_of (form_to d) h.far ≤ length x.far
  far_long = omega (arith, stored_length d r.far h.far c.stands.far_fine)

  near_long : bytes_of (form_to d) h.near ≤ length x.near
  near_long = omega (arith, stored_length d r.near h.near c.stands.near_fine)

  same_handed : (u v : Used) (k : Event) → admitted h (lengths_of r) u k ≡ Some v → samples_for i' u (Some k) ≡ samples_for i u (Some k)
  unfolding samples_of admitted
  same_handed u v (event.Far count) a =
      let w = enough (supplied h.form (u.far + count) h.far (length r.far)) (used_up (u.far + count) u.near) v a in
      let most = leb-true (u.far + count) h.far (both_true (leb (u.far + count) h.far) _ w.0).0 in
      part_same d r.far h.far u.far count b.far c.stands.far_fine far_there most
      ∙ ap (λ (f : Form). part (all_samples f r.far) u.far count) (sym c.form)
  same_handed u v (event.Near count first) a =
      let w = enough (supplied h.form (u.near + count) h.near (length r.near)) (used_up u.far (u.near + count)) v a in
      let most = leb-true (u.near + count) h.near (both_true (leb (u.near + count) h.near) _ w.0).0 in
      part_same d r.near h.near u.near count b.near c.stands.near_fine near_there most
      ∙ ap (λ (f : Form). part (all_samples f r.near) u.near count) (sym c.form)
  same_handed u v event.Rearm a = refl
  same_handed u v event.DiscardNear a = refl
  same_handed u v event.Unconfident a = refl
  same_handed u v (event.Interior alignment delay) a = refl
  same_handed u v (event.Edge alignment delay) a = refl
  same_handed u v event.Discontinuity a = refl

  -- ---- event by event

  plays : (e : ℕ) (s : Session) (bs : Buffers) (j : Inputs) (k : Header) (ev : Event) (v : Used) → event_number k.form j.events e ≡ Some ev → admitted k j.lengths s.used ev ≡ Some v
      → step_at j k e s bs ≡ event_played e (with_used s v) bs ev (samples_for j s.used (Some ev))
  unfolding stepped
  plays e s bs j k ev v is a =
      ap (λ (n : Option Event). stepped k j.lengths e s bs n (samples_for j s.used n)) is
      ∙ ap (after_admission e s bs ev (samples_for j s.used (Some ev))) a

  same_lines : (left e : ℕ) (u w : Used) → Trace d h r left e u w → e + left ≡ h.events → (s : Session) (bs : Buffers) → s.used ≡ u → lines_from i' h' left e s bs ≡ lines_from i h left e s bs
  unfolding lines_from closing all_used
  same_lines left e u w (done e₁ u₁) z s bs q = refl
  same_lines left e u w (one left₁ e₁ u₁ v w₁ k is a strange later) z s bs q =
      let here : admitted h (lengths_of r) s.used k ≡ Some v = ap (λ (n : Used). admitted h (lengths_of r) n k) q ∙ a in
      let there : admitted h' (lengths_of x) s.used k ≡ Some v = same_admission d h r x s.used v k far_long near_long here in
      let entry' : event_number (form_to d) x.events e₁ ≡ Some k = same_entry d h r h.events e₁ (totals h) (omega (arith, z)) c.long ∙ is in
      let xs = samples_for i s.used (Some k) in
      let p = event_played e₁ (with_used s v) bs k xs in
      let one-play : step_at i' h' e₁ s bs ≡ p =
      plays e₁ s bs i' h' k v entry' there ∙ ap (event_played e₁ (with_used s v) bs k) (same_handed s.used v k here) in
      let other-play : step_at i h e₁ s bs ≡ p = plays e₁ s bs i h k v is here in
      let behind : lines_from i' h' left₁ (e₁ + 1) p.session p.buffers ≡ lines_from i h left₁ (e₁ + 1) p.session p.buffers =
      same_lines left₁ (e₁ + 1) v w₁ later (omega (arith, z)) p.session p.buffers (event_good e₁ (with_used s v) bs k xs).1 in
      ap (λ (y : Play). y.lines ++ pick y.ends [] (lines_from i' h' left₁ (e₁ + 1) y.session y.buffers)) one-play
      ∙ ap (λ (ls : List Line). p.lines ++ pick p.ends [] ls) behind
      ∙ sym (ap (λ (y : Play). y.lines ++ pick y.ends [] (lines_from i h left₁ (e₁ + 1) y.session y.buffers)) other-play)

  came_log : log_of g.events g.far g.near ≡ log_of r.events r.far r.near
  unfolding log_of new_session
  came_log =
      let s = new_session h.rate h.ceiling in
      let bs = clear_buffers (geometry_of h.rate h.ceiling) in
      ap (started g.events g.far g.near) (given_opens d r g c b.events)
      ∙ ap (λ (y : Recording). started y.events y.far y.near (Some h')) (sym c.is)
      ∙ ap (λ (ls : List Line). line.Replay h.rate h.ceiling ∷ ls) (same_lines h.events 0 (used_up 0 0) (totals h) c.trace (omega arith) s bs refl)
      ∙ ap (started r.events r.far r.near) (sym c.opens)

-- What a recording is converted to has its log.
pub one_log : (d : Direction) (r g : Recording) → OfBytes r → converted d r ≡ Converted g → log_of g.events g.far g.near ≡ log_of r.events r.far r.near
one_log d r g b q = came_log d r g b (came d r g q)
