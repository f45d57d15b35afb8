-- An event played from the bytes at hand is the event of the whole recording.
use Rattle.std.specs.Prelude.{Option, Some, None}
use Prim.Native.Nat.{ℕ, zero, suc, ◌+◌, ◌-◌, ◌*◌, ◌≤◌, ◌<◌}
use mathlib.Core.Path.{◌≡◌, refl, sym, ap, ◌∙◌, subst}
use mathlib.Core.Bool.{Bool, true, false}
use mathlib.Core.List.{List, [], ◌++◌}
use mathlib.Core.Logic.{inl, inr}
use native.Mathlib.Omega.{arith}
use lib.Dec.{leb}
use lib.Ieee.{Float}
use lib.ListN.{length, drop}
use borrow.Author.Tests.{le-leb, leb-true}
use Rattle.answers.specs.Pick.{pick, both, pick_false, pick_case}
use Rattle.answers.proofs.Passed.{both_true}
use Rattle.scan.specs.State.{Buffers}
use Rattle.log_lines.specs.declared.Line.{Line}
use Rattle.recording.specs.Recording.{offset_of}
use Rattle.recording.specs.Samples.{bytes_of, samples_in, samples_of, part, supplied, used_up, admitted}
use Rattle.recording.specs.declared.Form.{Form}
use Rattle.recording.specs.declared.Header.{Header}
use Rattle.recording.specs.declared.Used.{Used}
use Rattle.recording.specs.declared.Event.{Event}
use Rattle.recording.specs.declared.Event.TheVariants as event
use Rattle.replay.specs.Events.{Play, with_used, after_admission, bad_event, log_goes_on, near_played, event_played, stepped}
use Rattle.replay.specs.Log.{Inputs, inputs, all_samples, event_number, samples_for, lines_from}
use Rattle.replay.specs.declared.Session.{Session}
use Rattle.replay_stream.specs.Stream.{Stage, Events, Closed, Piece, Hand, bytes_used, short, Input, Next, next, waits, told, midway, Need, NoSamples, FarSamples, NearSamples, Few, need_of, awaits, handed, stage_after, used_for, seen, entered, entry_turn}
use Rattle.replay_stream.specs.Hosts.{Rest, rest_after, Front, FairHand}
use Rattle.replay_stream.proofs.Fronts.{Behind, behind_length, behind_more, part_is, there_or_all, hand_length, samples_handed}
use Rattle.replay_stream.proofs.Plain.{said, event_plain, event_goes}
use Rattle.replay_stream.proofs.Few.{good_few}
use Rattle.replay_stream.proofs.Standing.{followed, ahead, left_of, Stands, Fits, fits_none, told_ends, Lawful}

-- ---- admission from the bytes at hand

-- `count` samples behind `used` ones: where they are not awaited, the bytes at hand say the same of them as all bytes do
same_supply : (form : Form) (used count total : ℕ) (whole left : List ℕ) (p : Piece) → Behind whole (bytes_of form used) left → Front left p → (t : Bool) → leb (used + count) total ≡ t
    → both t (short (bytes_of form count) p) ≡ false
    → both t (leb (bytes_of form (used + count)) (bytes_of form used + length p.bytes)) ≡ both t (leb (bytes_of form (used + count)) (length whole))
unfolding pick
same_supply form used count total whole left p b f false q e = refl
same_supply form used count total whole left p b f true q e = elim (there_or_all left p f (bytes_of form count) e) [
  | inl there ↦
      le-leb (bytes_of form (used + count)) (bytes_of form used + length p.bytes) (omega (arith, there))
      ∙ sym (le-leb (bytes_of form (used + count)) (length whole) (omega (arith, there, behind_length whole (bytes_of form used) left b, hand_length left p f)))
  | inr all ↦ ap (leb (bytes_of form (used + count))) (sym (behind_length whole (bytes_of form used) left b ∙ ap (λ (l : List ℕ). bytes_of form used + length l) all))
]

pub same_admission : (h : Header) (far near : List ℕ) (u : Used) (r : Rest) (hand : Hand) → Behind far (bytes_of h.form u.far) r.far → Behind near (bytes_of h.form u.near) r.near → FairHand r hand
    → (k : Event) → awaits h u hand (need_of (Some k)) ≡ false → admitted h (seen h.form u hand) u k ≡ admitted h (record { far = length far; near = length near }) u k
unfolding admitted
same_admission h far near u r hand bf bn fair (event.Far count) e =
    ap (λ (t : Bool). pick t (Some (used_up (u.far + count) u.near)) None) (same_supply h.form u.far count h.far far r.far hand.far bf fair.far (leb (u.far + count) h.far) refl e)
same_admission h far near u r hand bf bn fair (event.Near count first) e =
    ap (λ (t : Bool). pick t (Some (used_up u.far (u.near + count))) None) (same_supply h.form u.near count h.near near r.near hand.near bn fair.near (leb (u.near + count) h.near) refl e)
same_admission h far near u r hand bf bn fair event.Rearm e = refl
same_admission h far near u r hand bf bn fair event.DiscardNear e = refl
same_admission h far near u r hand bf bn fair event.Unconfident e = refl
same_admission h far near u r hand bf bn fair (event.Interior alignment delay) e = refl
same_admission h far near u r hand bf bn fair (event.Edge alignment delay) e = refl
same_admission h far near u r hand bf bn fair event.Discontinuity e = refl

-- what an admitted event uses, and that it is at hand
pub record Taken (form : Form) (e : ℕ) (u u' : Used) (hand : Hand) (need : Need) : Type 0 where
  pub far : bytes_of form u'.far ≡ bytes_of form u.far + (used_for form need).far
  pub far_there : (used_for form need).far ≤ length hand.far.bytes
  pub near : bytes_of form u'.near ≡ bytes_of form u.near + bytes_of form (left_of (stage_after e need))
  pub near_there : bytes_of form (left_of (stage_after e need)) ≤ length hand.near.bytes

enough : (t : Bool) (v u : Used) → pick t (Some v) None ≡ Some u → (t ≡ true) × (v ≡ u)
unfolding pick
enough true v u e = (refl, cc)
enough false v u e = let z : ◌≡◌ {A = ℕ} 0 1 = cc in absurd (omega (arith, z))

pub midway_left : (e index left : ℕ) → left_of (midway e index left) ≡ left
midway_left e index zero = refl
midway_left e index (suc n) = refl

-- samples that are left are ahead, also where none is
pub midway_ahead : (i : Inputs) (h : Header) (near : List ℕ) (n e index left : ℕ) (s : Session) (b : Buffers)
    → ahead i h near n (midway e index left) s b ≡ followed i h n (log_goes_on (near_played e s b (samples_in h.form near left) index))
unfolding near_played samples_in
midway_ahead i h near n e index zero s b = refl
midway_ahead i h near n e index (suc left) s b = refl

module _ (e : ℕ) (h : Header) (u u' : Used) (hand : Hand) where
  taken_none : Some u ≡ Some u' → Taken h.form e u u' hand NoSamples
  taken_none q =
      let same : u ≡ u' = cc in
      record { far = ap (λ (v : Used). bytes_of h.form v.far) (sym same) ∙ omega arith; far_there = omega arith; near = ap (λ (v : Used). bytes_of h.form v.near) (sym same) ∙ omega arith; near_there = omega arith }

  pub taken : (k : Event) → admitted h (seen h.form u hand) u k ≡ Some u' → Taken h.form e u u' hand (need_of (Some k))
  unfolding admitted
  taken (event.Far count) q =
      let w = enough (supplied h.form (u.far + count) h.far (bytes_of h.form u.far + length hand.far.bytes)) (used_up (u.far + count) u.near) u' q in
      let there = leb-true (bytes_of h.form (u.far + count)) (bytes_of h.form u.far + length hand.far.bytes) (both_true _ _ w.0).1 in
      record {
        far = ap (λ (v : Used). bytes_of h.form v.far) (sym w.1) ∙ omega arith;
        far_there = omega (arith, there);
        near = ap (λ (v : Used). bytes_of h.form v.near) (sym w.1) ∙ omega arith;
        near_there = omega arith;
      }
  taken (event.Near count first) q =
      let w = enough (supplied h.form (u.near + count) h.near (bytes_of h.form u.near + length hand.near.bytes)) (used_up u.far (u.near + count)) u' q in
      let there = leb-true (bytes_of h.form (u.near + count)) (bytes_of h.form u.near + length hand.near.bytes) (both_true _ _ w.0).1 in
      let left = ap (λ (k : ℕ). bytes_of h.form k) (midway_left e first count) in
      record {
        far = ap (λ (v : Used). bytes_of h.form v.far) (sym w.1) ∙ omega arith;
        far_there = omega arith;
        near = ap (λ (v : Used). bytes_of h.form v.near) (sym w.1) ∙ omega (arith, left);
        near_there = omega (arith, there, left);
      }
  taken event.Rearm q = taken_none q
  taken event.DiscardNear q = taken_none q
  taken event.Unconfident q = taken_none q
  taken (event.Interior alignment delay) q = taken_none q
  taken (event.Edge alignment delay) q = taken_none q
  taken event.Discontinuity q = taken_none q

stage_few : (e : ℕ) (need : Need) → Few need → left_of (stage_after e need) ≤ 4096
stage_few e NoSamples f = omega arith
stage_few e (FarSamples count) f = omega arith
stage_few e (NearSamples count first) f = omega (arith, midway_left e first count)

-- ---- the event

module _ (events far near : List ℕ) (h : Header) (n : ℕ) (s : Session) (b : Buffers) (r : Rest) (hand : Hand)
    (st : Stands h.form events far near n Events s.used r) (fair : FairHand r hand) (more : n < h.events) where
  abbrev i : Inputs
  i = inputs h.form events far near

  abbrev P : Next → Type 0
  P = Lawful events far near h n Events s b r hand

  -- a play of this event, and what follows in the log
  abbrev onwards : Play → List Line
  onwards p = p.lines ++ pick p.ends [] (lines_from i h (h.events - (n + 1)) (n + 1) p.session p.buffers)

  from_here : (k : Option Event) → event_number h.form events n ≡ k → ahead i h r.near n Events s b ≡ onwards (stepped h i.lengths n s b k (samples_for i s.used k))
  unfolding lines_from
  from_here k q =
      let m : h.events - n ≡ suc (h.events - (n + 1)) = omega arith in
      ap (λ (left : ℕ). lines_from i h left n s b) m
      ∙ ap (λ (j : Option Event). onwards (stepped h i.lengths n s b j (samples_for i s.used j))) q

  goes : (p : Play) → p.ends ≡ false → onwards p ≡ followed i h (n + 1) p
  goes p f = ap (λ (ls : List Line). p.lines ++ ls) (pick_false p.ends [] _ f)

  pub waiting : (input : Input) → P (waits n Events s b input)
  waiting input = record { tells = refl; stands = st; fits = fits_none hand; ends = tt }

  -- ---- a bad event ends the log

  closed : (need : Need) → ahead i h r.near n Events s b ≡ onwards (bad_event n s b) → P (entered h.form n s need (bad_event n s b))
  unfolding pick
  closed need q = record {
    tells = q;
    stands = record { entries = st.entries; fars = st.fars; passed = st.passed; nears = st.nears; partly = st.partly; there = st.there; few = st.few };
    fits = fits_none hand;
    ends = tt;
  }

  -- ---- an admitted event

  module _ (k : Event) (is : event_number h.form events n ≡ Some k) (whole : 16 ≤ length hand.events.bytes) (u : Used)
      (a : admitted h i.lengths s.used k ≡ Some u) (t : Taken h.form n s.used u hand (need_of (Some k))) where
    abbrev need : Need
    need = need_of (Some k)

    -- as it is played here, and as the log has it
    abbrev here : Play
    here = event_played n (with_used s u) b k (handed h.form hand need)

    abbrev there : Play
    there = event_played n (with_used s u) b k (samples_for i s.used (Some k))

    in_log : ahead i h r.near n Events s b ≡ followed i h (n + 1) there
    unfolding stepped
    in_log =
        from_here (Some k) is
        ∙ ap (λ (x : Option Used). onwards (after_admission n s b k (samples_for i s.used (Some k)) x)) a
        ∙ goes there (event_goes n (with_used s u) b k (samples_for i s.used (Some k)))

    abbrev after : Next
    after = next (n + 1) (stage_after n need) here.session here.buffers (told here.lines) (used_for h.form need)

    keeps : here.session.used ≡ u
    keeps = (event_plain h.form n (with_used s u) b hand k).keeps

    no_near : (j : Need) → (used_for h.form j).near ≡ 0
    no_near NoSamples = refl
    no_near (FarSamples count) = refl
    no_near (NearSamples count first) = refl

    sixteen : (j : Need) → (used_for h.form j).events ≡ 16
    sixteen NoSamples = refl
    sixteen (FarSamples count) = refl
    sixteen (NearSamples count first) = refl

    -- the bytes stand behind it
    stands_after : Stands h.form events far near (n + 1) (stage_after n need) here.session.used (rest_after (used_for h.form need) r)
    stands_after =
        let entries₁ = behind_more events (offset_of h.form + 16 * n) r.events st.entries (used_for h.form need).events (omega (arith, sixteen need, hand_length r.events hand.events fair.events)) in
        let fars₁ = behind_more far (bytes_of h.form s.used.far) r.far st.fars (used_for h.form need).far (omega (arith, t.far_there, hand_length r.far hand.far fair.far)) in
        let at : offset_of h.form + 16 * n + (used_for h.form need).events ≡ offset_of h.form + 16 * (n + 1) = omega (arith, sixteen need) in
        let nears₁ : Behind near st.passed (drop (used_for h.form need).near r.near) = rw (no_near need) st.nears in
        record {
          entries = rw at at entries₁;
          fars = rw (keeps, t.far) fars₁;
          passed = st.passed;
          nears = nears₁;
          partly = omega (arith, st.partly, ap (λ (v : Used). bytes_of h.form v.near) keeps, t.near);
          there = rw (no_near need) (omega (arith, t.near_there, hand_length r.near hand.near fair.near));
          few = stage_few n need (good_few events (offset_of h.form + 16 * n) k is);
        }

    fits_after : Fits (used_for h.form need) hand
    fits_after = record { events = omega (arith, sixteen need); far = t.far_there; near = omega (arith, no_near need) }

    -- what is still to say: what is ahead of it
    entered_law : ahead i h r.near n Events s b ≡ said (told here.lines) ++ ahead i h (drop (used_for h.form need).near r.near) (n + 1) (stage_after n need) here.session here.buffers
        → P (entered h.form n s need here)
    entered_law q =
        let law : P after = record { tells = q; stands = stands_after; fits = fits_after; ends = told_ends here.lines _ } in
        subst P (sym (pick_false here.ends (next n Closed s here.buffers (told here.lines) (bytes_used 0 0 0)) after (event_goes n (with_used s u) b k (handed h.form hand need)))) law

    -- any event but a near one: all of it is played, with the samples that the log has
    plain_law : stage_after n need ≡ Events → samples_for i s.used (Some k) ≡ handed h.form hand need → P (entered h.form n s need here)
    plain_law e q =
        entered_law
        (in_log
        ∙ ap (λ (xs : List Float). followed i h (n + 1) (event_played n (with_used s u) b k xs)) q
        ∙ ap (λ (ls : List Line). ls ++ lines_from i h (h.events - (n + 1)) (n + 1) here.session here.buffers) (sym (event_plain h.form n (with_used s u) b hand k).one)
        ∙ ap (λ (g : Stage). said (told here.lines) ++ ahead i h (drop (used_for h.form need).near r.near) (n + 1) g here.session here.buffers) (sym e))

  -- ---- by kinds

  near_at : Behind near (bytes_of h.form s.used.near) r.near
  near_at = let e : st.passed ≡ bytes_of h.form s.used.near = omega (arith, st.partly) in rw e at st.nears

  far_samples : (count : ℕ) → bytes_of h.form count ≤ length hand.far.bytes → part (all_samples h.form far) s.used.far count ≡ samples_in h.form hand.far.bytes count
  far_samples count m =
      part_is h.form far s.used.far count (omega (arith, behind_length far (bytes_of h.form s.used.far) r.far st.fars, hand_length r.far hand.far fair.far))
      ∙ ap (λ (l : List ℕ). samples_in h.form l count) st.fars.at
      ∙ samples_handed r.far hand.far fair.far h.form count m

  near_samples : (count : ℕ) → bytes_of h.form count ≤ length hand.near.bytes → part (all_samples h.form near) s.used.near count ≡ samples_in h.form r.near count
  near_samples count m =
      part_is h.form near s.used.near count (omega (arith, behind_length near (bytes_of h.form s.used.near) r.near near_at, hand_length r.near hand.near fair.near))
      ∙ ap (λ (l : List ℕ). samples_in h.form l count) near_at.at

  module _ (whole : 16 ≤ length hand.events.bytes) (u : Used) where
    -- a near event is entered, and all its samples are still ahead
    near_law : (count first : ℕ) → event_number h.form events n ≡ Some (event.Near count first) → admitted h i.lengths s.used (event.Near count first) ≡ Some u
        → Taken h.form n s.used u hand (NearSamples count first) → P (entered h.form n s (NearSamples count first) (event_played n (with_used s u) b (event.Near count first) []))
    unfolding event_played near_played samples_of
    near_law count first is a t =
        let there : bytes_of h.form count ≤ length hand.near.bytes = omega (arith, t.near_there, ap (λ (k : ℕ). bytes_of h.form k) (midway_left n first count)) in
        entered_law (event.Near count first) is whole u a t
        (in_log (event.Near count first) is whole u a t
        ∙ ap (λ (xs : List Float). followed i h (n + 1) (log_goes_on (near_played n (with_used s u) b xs first))) (near_samples count there)
        ∙ sym (midway_ahead i h r.near (n + 1) n first count (with_used s u) b))

    event_law : (k : Event) → event_number h.form events n ≡ Some k → admitted h i.lengths s.used k ≡ Some u → Taken h.form n s.used u hand (need_of (Some k))
        → P (entered h.form n s (need_of (Some k)) (event_played n (with_used s u) b k (handed h.form hand (need_of (Some k)))))
    unfolding samples_of
    event_law (event.Far count) is a t = plain_law (event.Far count) is whole u a t refl (far_samples count t.far_there)
    event_law (event.Near count first) is a t = near_law count first is a t
    event_law event.Rearm is a t = plain_law event.Rearm is whole u a t refl refl
    event_law event.DiscardNear is a t = plain_law event.DiscardNear is whole u a t refl refl
    event_law event.Unconfident is a t = plain_law event.Unconfident is whole u a t refl refl
    event_law (event.Interior alignment delay) is a t = plain_law (event.Interior alignment delay) is whole u a t refl refl
    event_law (event.Edge alignment delay) is a t = plain_law (event.Edge alignment delay) is whole u a t refl refl
    event_law event.Discontinuity is a t = plain_law event.Discontinuity is whole u a t refl refl

  -- ---- any entry

  admission_law : (k : Event) → event_number h.form events n ≡ Some k → 16 ≤ length hand.events.bytes → (a : Option Used) → admitted h (seen h.form s.used hand) s.used k ≡ a
      → admitted h i.lengths s.used k ≡ a → P (entered h.form n s (need_of (Some k)) (after_admission n s b k (handed h.form hand (need_of (Some k))) a))
  unfolding stepped
  admission_law k is whole None here there =
      closed (need_of (Some k)) (from_here (Some k) is ∙ ap (λ (x : Option Used). onwards (after_admission n s b k (samples_for i s.used (Some k)) x)) there)
  admission_law k is whole (Some u) here there = event_law whole u k is there (taken n h s.used u hand k here)

  pub entry_law : (k : Option Event) → event_number h.form events n ≡ k → ((j : Event) → k ≡ Some j → 16 ≤ length hand.events.bytes) → P (entry_turn h n s b hand k)
  unfolding entry_turn stepped
  entry_law None is whole = pick_case P false _ _ (λ f. waiting _) (λ f. closed NoSamples (from_here None is))
  entry_law (Some k) is whole =
      pick_case P (awaits h s.used hand (need_of (Some k))) _ _
      (λ f. waiting _)
      (λ f. admission_law k is (whole k refl) (admitted h (seen h.form s.used hand) s.used k) refl (sym (same_admission h far near s.used r hand st.fars near_at fair k f)))
