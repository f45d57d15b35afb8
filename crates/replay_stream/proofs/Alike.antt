-- What is answered does not depend on how the bytes come in: where it is a line or the end, it is what all that is left gives, to the last bit of the place and the buffers.
use Rattle.std.specs.Prelude.{Option, Some, None}
use Prim.Native.Nat.{ℕ, zero, suc, ◌+◌, ◌-◌, ◌*◌, min}
use mathlib.Core.Path.{◌≡◌, refl, sym, ap, ◌∙◌}
use mathlib.Core.Bool.{Bool, true, false, false≢true}
use mathlib.Core.List.{List, [], append-nil}
use native.Mathlib.Omega.{arith}
use lib.Dec.{leb, ltb}
use lib.Ieee.{Float}
use lib.ListN.{length}
use borrow.Author.Tests.{ltb-false, le-ltb}
use Rattle.answers.specs.Pick.{pick, both, pick_true, pick_false, pick_case}
use Rattle.scan.specs.State.{Buffers}
use Rattle.recording.specs.Recording.{event_at}
use Rattle.recording.specs.Samples.{bytes_of, admitted}
use Rattle.recording.specs.declared.Form.{Form}
use Rattle.recording.specs.declared.Header.{Header}
use Rattle.recording.specs.declared.Used.{Used}
use Rattle.recording.specs.declared.Event.{Event}
use Rattle.recording.proofs.Forms.{bytes_mono}
use Rattle.replay.specs.Events.{Play, after_admission, stepped}
use Rattle.replay.specs.Log.{closing}
use Rattle.replay.specs.declared.Session.{Session}
use Rattle.replay_stream.specs.Stream.{Stage, Opening, Events, Midway, Closed, Place, Hand, bytes_used, beyond, short, Input, Entries, NearSide, Answer, Says, Wants, Next, next, waits, told, midway, near_cut, near_turn, Need, NoSamples, FarSamples, NearSamples, need_of, awaited, awaits, side_of, handed, seen, entered, entry_turn, turn_at, turn, silent, on_top, turns, next_line}
use Rattle.replay_stream.specs.Hosts.{Rest, rest_after, Front, FairHand}
use Rattle.replay_stream.specs.Notes.{last, whole_hand}
use Rattle.replay_stream.proofs.Fronts.{Behind, entry_handed, samples_handed}
use Rattle.replay_stream.proofs.Standing.{Stands, fair_past}
use Rattle.replay_stream.proofs.Entering.{Taken, taken, same_admission}
use Rattle.replay_stream.proofs.Turning.{StandsAt, turn_law}

all_front : (left : List ℕ) → Front left (last left)
all_front left = record { later = []; joins = sym (append-nil left); last = λ e. refl }

pub whole_fair : (r : Rest) → FairHand r (whole_hand r)
whole_fair r = record { events = all_front r.events; far = all_front r.far; near = all_front r.near }

-- an answer other than that more is wanted
abbrev pub Settled : Answer → Type 0
Settled a = (i : Input) → a ≡ Wants i → ⊥

pub silent_settled : (a : Answer) → silent a ≡ true → Settled a
silent_settled a q i e = false≢true (ap silent (sym e) ∙ q)

never_awaited : (form : Form) (used total count : ℕ) (left : List ℕ) → awaited form used total count (last left) ≡ false
unfolding pick
never_awaited form used total count left = go (leb (used + count) total)
  where
    go : (t : Bool) → both t false ≡ false
    go true = refl
    go false = refl

none_awaited : (h : Header) (u : Used) (r : Rest) (need : Need) → awaits h u (whole_hand r) need ≡ false
none_awaited h u r NoSamples = refl
none_awaited h u r (FarSamples count) = never_awaited h.form u.far h.far count r.far
none_awaited h u r (NearSamples count first) = never_awaited h.form u.near h.near count r.near

module _ (events far near : List ℕ) (h : Header) where
  -- ---- an event

  module _ (n : ℕ) (s : Session) (b : Buffers) (r : Rest) (hand : Hand) (st : Stands h.form events far near n Events s.used r) (fair : FairHand r hand) where
    near_at : Behind near (bytes_of h.form s.used.near) r.near
    near_at = let e : st.passed ≡ bytes_of h.form s.used.near = omega (arith, st.partly) in rw e at st.nears

    same_handed : (u : Used) (need : Need) → Taken h.form n s.used u hand need → handed h.form hand need ≡ handed h.form (whole_hand r) need
    same_handed u NoSamples t = refl
    same_handed u (FarSamples count) t = sym (samples_handed r.far hand.far fair.far h.form count t.far_there)
    same_handed u (NearSamples count first) t = refl

    same_play : (k : Event) (a : Option Used) → admitted h (seen h.form s.used hand) s.used k ≡ a
        → after_admission n s b k (handed h.form hand (need_of (Some k))) a ≡ after_admission n s b k (handed h.form (whole_hand r) (need_of (Some k))) a
    same_play k None q = refl
    same_play k (Some u) q = ap (λ (xs : List Float). after_admission n s b k xs (Some u)) (same_handed u (need_of (Some k)) (taken n h s.used u hand k q))

    abbrev steps : Hand → Option Event → Play
    steps g k = stepped h (seen h.form s.used g) n s b k (handed h.form g (need_of k))

    same_step : (k : Option Event) → awaits h s.used hand (need_of k) ≡ false → steps hand k ≡ steps (whole_hand r) k
    unfolding stepped
    same_step None f = refl
    same_step (Some k) f =
        let need = need_of (Some k) in
        let one = same_admission h far near s.used r hand st.fars near_at fair k f in
        let two = same_admission h far near s.used r (whole_hand r) st.fars near_at (whole_fair r) k (none_awaited h s.used r need) in
        same_play k (admitted h (seen h.form s.used hand) s.used k) refl
        ∙ ap (after_admission n s b k (handed h.form (whole_hand r) need)) (one ∙ sym two)

    same_entry : (k : Option Event) → Settled (entry_turn h n s b hand k).answer → entry_turn h n s b hand k ≡ entry_turn h n s b (whole_hand r) k
    unfolding entry_turn
    same_entry k =
        pick_case (λ (t : Next). Settled t.answer → t ≡ entry_turn h n s b (whole_hand r) k) (awaits h s.used hand (need_of k)) _ _
        (λ f settled. absurd (settled (side_of (need_of k)) refl))
        (λ f settled. ap (entered h.form n s (need_of k)) (same_step k f) ∙ sym (pick_false _ _ _ (none_awaited h s.used r (need_of k))))

    same_events : Settled (turn_at h n Events s b hand).answer → turn_at h n Events s b hand ≡ turn_at h n Events s b (whole_hand r)
    unfolding pick
    same_events = go (ltb n h.events) (short 16 hand.events) refl
      where
        go : (m w : Bool) → short 16 hand.events ≡ w
            → Settled (pick m (pick w (waits n Events s b Entries) (entry_turn h n s b hand (event_at hand.events.bytes 0))) (next n Closed s b (Says (closing h s)) (bytes_used 0 0 0))).answer
            → pick m (pick w (waits n Events s b Entries) (entry_turn h n s b hand (event_at hand.events.bytes 0))) (next n Closed s b (Says (closing h s)) (bytes_used 0 0 0))
            ≡ pick m (entry_turn h n s b (whole_hand r) (event_at r.events 0)) (next n Closed s b (Says (closing h s)) (bytes_used 0 0 0))
        go true true e settled = absurd (settled Entries refl)
        go true false e settled =
            same_entry (event_at hand.events.bytes 0) settled
            ∙ ap (entry_turn h n s b (whole_hand r)) (sym (entry_handed r.events hand.events fair.events e))
        go false true e settled = refl
        go false false e settled = refl

  -- ---- a near event left midway

  same_midway : (n e index left : ℕ) (s : Session) (b : Buffers) (r : Rest) (hand : Hand) → Stands h.form events far near n (Midway e index left) s.used r → FairHand r hand
      → Settled (turn_at h n (Midway e index left) s b hand).answer → turn_at h n (Midway e index left) s b hand ≡ turn_at h n (Midway e index left) s b (whole_hand r)
  unfolding near_turn
  same_midway n e index left s b r hand st fair =
      pick_case (λ (t : Next). Settled t.answer → t ≡ turn_at h n (Midway e index left) s b (whole_hand r)) (ltb (min (length hand.near.bytes) (bytes_of h.form 4096)) (bytes_of h.form left)) _ _
      (λ w settled. absurd (settled NearSide refl))
      (λ w settled. ap (λ (xs : List Float). played xs) (sym (samples_handed r.near hand.near fair.near h.form left (omega (arith, ltb-false (min (length hand.near.bytes) (bytes_of h.form 4096)) (bytes_of h.form left) w))))
      ∙ sym (pick_false _ _ _ (le-ltb (min (length r.near) (bytes_of h.form 4096)) (bytes_of h.form left) (omega (arith, st.there, bytes_mono h.form left 4096 st.few)))))
    where
      played : List Float → Next
      played xs =
          let c = near_cut e s b xs index in
          next n (midway e c.index (length c.left)) c.session c.buffers (told c.lines) (bytes_used 0 0 (bytes_of h.form (left - length c.left)))

  -- ---- any turn, and turn behind turn

  same_stage : (n : ℕ) (stage : Stage) (s : Session) (b : Buffers) (r : Rest) (hand : Hand) → Stands h.form events far near n stage s.used r → FairHand r hand
      → Settled (turn_at h n stage s b hand).answer → turn_at h n stage s b hand ≡ turn_at h n stage s b (whole_hand r)
  same_stage n Opening s b r hand st fair = λ settled. refl
  same_stage n Events s b r hand st fair = same_events n s b r hand st fair
  same_stage n (Midway e index left) s b r hand st fair = same_midway n e index left s b r hand st fair
  same_stage n Closed s b r hand st fair = λ settled. refl

  pub same_turn : (p : Place) (b : Buffers) (r : Rest) (hand : Hand) → StandsAt events far near h p r → FairHand r hand → Settled (turn h p b hand).answer → turn h p b hand ≡ turn h p b (whole_hand r)
  unfolding turn
  same_turn p b r hand st fair = same_stage p.number p.stage p.session b r hand st fair

  same_turns : (more : ℕ) (p : Place) (b : Buffers) (r : Rest) (hand : Hand) → StandsAt events far near h p r → FairHand r hand → Settled (turns more h p b hand).answer
      → turns more h p b hand ≡ turns more h p b (whole_hand r)
  unfolding turns
  same_turns zero p b r hand st fair = same_turn p b r hand st fair
  same_turns (suc more) p b r hand st fair =
      let t = turn h p b hand in
      let law = turn_law events far near h p b r hand st fair in
      let row : Next → Hand → Next = λ x g. on_top x.used (turns more h x.place x.buffers (beyond x.used g)) in
      pick_case (λ (x : Next). Settled x.answer → x ≡ turns (suc more) h p b (whole_hand r)) (silent t.answer) _ _
      (λ z settled.
      let one = same_turn p b r hand st fair (silent_settled t.answer z) in
      ap (on_top t.used) (same_turns more t.place t.buffers (rest_after t.used r) (beyond t.used hand) law.stands (fair_past t.used r hand fair law.fits) settled)
      ∙ ap (λ (x : Next). row x (whole_hand r)) one
      ∙ sym (pick_true (silent (turn h p b (whole_hand r)).answer) _ _ (ap (λ (x : Next). silent x.answer) (sym one) ∙ z)))
      (λ z settled.
      let one = same_turn p b r hand st fair settled in
      one ∙ sym (pick_false (silent (turn h p b (whole_hand r)).answer) _ _ (ap (λ (x : Next). silent x.answer) (sym one) ∙ z)))

  -- a line, or the end, is answered as it is where all that is left is at hand
  pub same_answer : (p : Place) (b : Buffers) (r : Rest) (hand : Hand) → StandsAt events far near h p r → FairHand r hand → Settled (next_line h p b hand).answer
      → next_line h p b hand ≡ next_line h p b (whole_hand r)
  unfolding next_line
  same_answer p b r hand st fair = same_turns (2 * (h.events - p.number) + 1) p b r hand st fair
