-- Every turn, and every row of turns, is lawful: what it says is the front of what is ahead.
use Rattle.std.specs.Prelude.{Option, Some, None}
use Prim.Native.Nat.{ℕ, zero, suc, ◌+◌, ◌-◌, ◌*◌, ◌≤◌, min}
use mathlib.Core.Path.{◌≡◌, refl, sym, ap, ◌∙◌, subst}
use mathlib.Core.Bool.{Bool, true, false, false≢true}
use mathlib.Core.List.{List, [], ◌++◌, append_assoc}
use native.Mathlib.Omega.{arith}
use lib.Dec.{ltb}
use lib.Ieee.{Float}
use lib.ListN.{length, drop, length-drop}
use lib.Seq.{drop-drop}
use borrow.Author.Tests.{leb-true, ltb-true, ltb-false}
use Rattle.answers.specs.Pick.{pick, pick_case}
use Rattle.scan.specs.State.{Buffers}
use Rattle.log_lines.specs.declared.Line.{Line}
use Rattle.recording.specs.Recording.{offset_of, event_at}
use Rattle.recording.specs.Samples.{bytes_of, samples_in}
use Rattle.recording.specs.declared.Header.{Header}
use Rattle.recording.specs.declared.Event.{Event}
use Rattle.recording.specs.declared.Used.{Used}
use Rattle.replay.specs.Events.{Play, log_goes_on, near_played}
use Rattle.replay.specs.Log.{Inputs, inputs, lines_from, closing}
use Rattle.replay.specs.declared.Session.{Session}
use Rattle.replay_stream.specs.Stream.{Stage, Opening, Events, Midway, Closed, Place, Hand, Bytes, bytes_used, short, beyond, Answer, Says, Silent, Wants, Over, Next, next, told, Cut, near_cut, midway, near_turn, turn_at, turn, silent, on_top, turns, next_line}
use Rattle.replay_stream.specs.Hosts.{Rest, rest_after, FairHand}
use Rattle.replay_stream.proofs.Fronts.{behind_more, entry_here, entry_handed, hand_length, samples_length, samples_behind, samples_handed}
use Rattle.replay_stream.proofs.Plain.{said}
use Rattle.replay_stream.proofs.Cutting.{Cuts, cuts}
use Rattle.replay_stream.proofs.Standing.{followed, ahead, Stands, fits_none, fair_past, Ends, told_ends, Lawful}
use Rattle.replay_stream.proofs.Entering.{midway_left, midway_ahead, waiting, entry_law}

-- ---- the next event, or the close

good_for : (t : Bool) (x : Option Event) (j : Event) → pick t x None ≡ Some j → t ≡ true
unfolding pick
good_for true x j e = refl
good_for false x j e = let z : ◌≡◌ {A = ℕ} 0 1 = cc in absurd (omega (arith, z))

pub good_whole : (s : List ℕ) (j : Event) → event_at s 0 ≡ Some j → 16 ≤ length s
unfolding event_at
good_whole s j e = leb-true (0 + 16) (length s) (good_for _ _ j e)

-- ---- bytes used twice are used together

silent_says : (a : Answer) → silent a ≡ true → said a ≡ []
silent_says (Says l) e = absurd (false≢true e)
silent_says Silent e = refl
silent_says (Wants input) e = absurd (false≢true e)
silent_says Over e = absurd (false≢true e)

pub unused_twice : (u v : Bytes) (r : Rest) → rest_after v (rest_after u r) ≡ rest_after (bytes_used (u.events + v.events) (u.far + v.far) (u.near + v.near)) r
unused_twice u v r = rw (drop-drop v.events u.events r.events, drop-drop v.far u.far r.far, drop-drop v.near u.near r.near)

pub beyond_twice : (u v : Bytes) (hand : Hand) → beyond v (beyond u hand) ≡ beyond (bytes_used (u.events + v.events) (u.far + v.far) (u.near + v.near)) hand
beyond_twice u v hand = rw (drop-drop v.events u.events hand.events.bytes, drop-drop v.far u.far hand.far.bytes, drop-drop v.near u.near hand.near.bytes)

-- ---- each stage

module _ (events far near : List ℕ) (h : Header) where
  abbrev i : Inputs
  i = inputs h.form events far near

  module _ (n : ℕ) (s : Session) (b : Buffers) (r : Rest) (hand : Hand) (fair : FairHand r hand) where
    closing_law : Stands h.form events far near n Events s.used r → h.events ≤ n
        → Lawful events far near h n Events s b r hand (next n Closed s b (Says (closing h s)) (bytes_used 0 0 0))
    unfolding lines_from
    closing_law st m = record {
      tells = let z : h.events - n ≡ zero = omega arith in ap (λ (left : ℕ). lines_from i h left n s b) z;
      stands = record { entries = st.entries; fars = st.fars; passed = st.passed; nears = st.nears; partly = st.partly; there = st.there; few = st.few };
      fits = fits_none hand;
      ends = tt;
    }

    events_law : Stands h.form events far near n Events s.used r → Lawful events far near h n Events s b r hand (turn_at h n Events s b hand)
    events_law st =
        pick_case (Lawful events far near h n Events s b r hand) (ltb n h.events) _ _
        (λ m. let more = ltb-true n h.events m in
        pick_case (Lawful events far near h n Events s b r hand) (short 16 hand.events) _ _
        (λ w. waiting events far near h n s b r hand st fair more _)
        (λ w. entry_law events far near h n s b r hand st fair more (event_at hand.events.bytes 0)
        (entry_here events (offset_of h.form + 16 * n) r.events st.entries ∙ entry_handed r.events hand.events fair.events w)
        (good_whole hand.events.bytes)))
        (λ m. closing_law st (ltb-false n h.events m))

    -- ---- a near event left midway

    module _ (e index left : ℕ) (st : Stands h.form events far near n (Midway e index left) s.used r) (there : bytes_of h.form left ≤ length hand.near.bytes) where
      abbrev xs : List Float
      xs = samples_in h.form hand.near.bytes left

      abbrev c : Cut
      c = near_cut e s b xs index

      abbrev C : Cuts e s b xs index c
      C = cuts e s b xs index

      abbrev gone : ℕ
      gone = left - length c.left

      passed_gone : C.passed ≡ gone
      passed_gone = omega (arith, C.count, samples_length h.form hand.near.bytes left)

      all_left : left ≡ gone + length c.left
      all_left = omega (arith, C.count, samples_length h.form hand.near.bytes left)

      all_bytes : bytes_of h.form left ≡ bytes_of h.form gone + bytes_of h.form (length c.left)
      all_bytes = ap (λ (k : ℕ). bytes_of h.form k) all_left ∙ omega arith

      samples_left : c.left ≡ samples_in h.form (drop (bytes_of h.form gone) r.near) (length c.left)
      samples_left =
          sym C.behind_them
          ∙ ap (λ (k : ℕ). drop k xs) passed_gone
          ∙ ap (drop gone) (sym (samples_handed r.near hand.near fair.near h.form left there))
          ∙ ap (λ (k : ℕ). drop gone (samples_in h.form r.near k)) all_left
          ∙ samples_behind h.form r.near gone (length c.left)

      abbrev later : Play
      later = log_goes_on (near_played e c.session c.buffers c.left c.index)

      midway_tells : ahead i h r.near n (Midway e index left) s b
          ≡ said (told c.lines) ++ ahead i h (drop (bytes_of h.form gone) r.near) n (midway e c.index (length c.left)) c.session c.buffers
      midway_tells =
          ap (λ (ys : List Float). followed i h n (log_goes_on (near_played e s b ys index))) (samples_handed r.near hand.near fair.near h.form left there)
          ∙ ap (followed i h n) C.plays
          ∙ append_assoc c.lines later.lines (lines_from i h (h.events - n) n later.session later.buffers)
          ∙ ap (λ (ls : List Line). ls ++ followed i h n later) (sym C.one)
          ∙ ap (λ (ys : List Float). said (told c.lines) ++ followed i h n (log_goes_on (near_played e c.session c.buffers ys c.index))) samples_left
          ∙ ap (λ (ls : List Line). said (told c.lines) ++ ls) (sym (midway_ahead i h (drop (bytes_of h.form gone) r.near) n e c.index (length c.left) c.session c.buffers))

      midway_stands : Stands h.form events far near n (midway e c.index (length c.left)) c.session.used (rest_after (bytes_used 0 0 (bytes_of h.form gone)) r)
      midway_stands =
          let used : c.session.used ≡ s.used = C.keeps in
          let rest-there : bytes_of h.form gone ≤ length r.near = omega (arith, all_bytes, there, hand_length r.near hand.near fair.near) in
          let left_is = midway_left e c.index (length c.left) in
          let left-bytes = ap (λ (k : ℕ). bytes_of h.form k) left_is in
          record {
            entries = st.entries;
            fars = rw used st.fars;
            passed = st.passed + bytes_of h.form gone;
            nears = behind_more near st.passed r.near st.nears (bytes_of h.form gone) rest-there;
            partly = omega (arith, st.partly, ap (λ (v : Used). bytes_of h.form v.near) used, left-bytes, all_bytes);
            there = omega (arith, left-bytes, all_bytes, there, length-drop (bytes_of h.form gone) r.near, hand_length r.near hand.near fair.near);
            few = omega (arith, left_is, all_left, st.few);
          }

      near_turn_law : Lawful events far near h n (Midway e index left) s b r hand (near_turn h.form n e index left s b hand)
      unfolding near_turn
      near_turn_law = record {
        tells = midway_tells;
        stands = midway_stands;
        fits = record { events = omega arith; far = omega arith; near = omega (arith, all_bytes, there) };
        ends = told_ends c.lines _;
      }

    -- ---- any turn

    stage_law : (stage : Stage) → Stands h.form events far near n stage s.used r → Lawful events far near h n stage s b r hand (turn_at h n stage s b hand)
    stage_law Opening st = record {
      tells = refl;
      stands = record { entries = st.entries; fars = st.fars; passed = st.passed; nears = st.nears; partly = st.partly; there = st.there; few = st.few };
      fits = fits_none hand;
      ends = tt;
    }
    stage_law Events st = events_law st
    stage_law (Midway e index left) st =
        pick_case (Lawful events far near h n (Midway e index left) s b r hand) (ltb (min (length hand.near.bytes) (bytes_of h.form 4096)) (bytes_of h.form left)) _ _
        (λ w. record { tells = refl; stands = st; fits = fits_none hand; ends = tt })
        (λ w. near_turn_law e index left st (omega (arith, ltb-false (min (length hand.near.bytes) (bytes_of h.form 4096)) (bytes_of h.form left) w)))
    stage_law Closed st = record { tells = refl; stands = st; fits = fits_none hand; ends = refl }

  abbrev pub At : Place → Buffers → Rest → Hand → Next → Type 0
  At p b r hand t = Lawful events far near h p.number p.stage p.session b r hand t

  abbrev pub StandsAt : Place → Rest → Type 0
  StandsAt p r = Stands h.form events far near p.number p.stage p.session.used r

  pub turn_law : (p : Place) (b : Buffers) (r : Rest) (hand : Hand) → StandsAt p r → FairHand r hand → At p b r hand (turn h p b hand)
  unfolding turn
  turn_law p b r hand st fair = stage_law p.number p.session b r hand fair p.stage st

  -- ---- turn behind turn

  then : (p : Place) (b : Buffers) (r : Rest) (hand : Hand) (t m : Next) → silent t.answer ≡ true → At p b r hand t → At t.place t.buffers (rest_after t.used r) (beyond t.used hand) m
      → At p b r hand (on_top t.used m)
  then p b r hand t m q one two =
      let twice = unused_twice t.used m.used r in
      record {
        tells =
            one.tells
            ∙ ap (λ (ls : List Line). ls ++ ahead i h (rest_after t.used r).near t.place.number t.place.stage t.place.session t.buffers) (silent_says t.answer q)
            ∙ two.tells
            ∙ ap (λ (x : Rest). said m.answer ++ ahead i h x.near m.place.number m.place.stage m.place.session m.buffers) twice;
        stands = subst (StandsAt m.place) twice two.stands;
        fits = record {
          events = omega (arith, one.fits.events, two.fits.events, length-drop t.used.events hand.events.bytes);
          far = omega (arith, one.fits.far, two.fits.far, length-drop t.used.far hand.far.bytes);
          near = omega (arith, one.fits.near, two.fits.near, length-drop t.used.near hand.near.bytes);
        };
        ends = subst (λ (x : Rest). Ends m.answer (ahead i h x.near m.place.number m.place.stage m.place.session m.buffers)) twice two.ends;
      }

  pub turns_law : (more : ℕ) (p : Place) (b : Buffers) (r : Rest) (hand : Hand) → StandsAt p r → FairHand r hand → At p b r hand (turns more h p b hand)
  unfolding turns
  turns_law zero p b r hand st fair = turn_law p b r hand st fair
  turns_law (suc more) p b r hand st fair =
      let t = turn h p b hand in
      let one = turn_law p b r hand st fair in
      pick_case (At p b r hand) (silent t.answer) _ _
      (λ q. then p b r hand t (turns more h t.place t.buffers (beyond t.used hand)) q one (turns_law more t.place t.buffers (rest_after t.used r) (beyond t.used hand) one.stands (fair_past t.used r hand fair one.fits)))
      (λ q. one)

  pub next_law : (p : Place) (b : Buffers) (r : Rest) (hand : Hand) → StandsAt p r → FairHand r hand → At p b r hand (next_line h p b hand)
  unfolding next_line
  next_law p b r hand st fair = turns_law (2 * (h.events - p.number) + 1) p b r hand st fair
