-- More is wanted only where little is at hand: fewer than 16 bytes of the events, or fewer than 16,384 of a side, behind what was used, and the end not told.
use Rattle.std.specs.Prelude.{Option}
use Rattle.recording.specs.declared.Event.{Event}
use Prim.Native.Nat.{ℕ, zero, suc, ◌+◌, ◌-◌, ◌*◌, ◌≤◌, ◌<◌, min}
use mathlib.Core.Path.{◌≡◌, refl, sym, ap, ◌∙◌, subst}
use mathlib.Core.Bool.{Bool, true, false, not, false≢true}
use mathlib.Core.List.{List, [], ◌∷◌}
use native.Mathlib.Omega.{arith}
use lib.Dec.{ltb}
use lib.ListN.{length}
use borrow.Author.Tests.{ltb-true, lt-ltb}
use Rattle.answers.specs.Pick.{pick, both, pick_case}
use Rattle.answers.proofs.Passed.{both_true}
use Rattle.scan.specs.State.{Buffers}
use Rattle.log_lines.specs.declared.Line.{Line}
use Rattle.recording.specs.Recording.{event_at}
use Rattle.recording.specs.Samples.{bytes_of, samples_in}
use Rattle.recording.specs.declared.Form.{Form}
use Rattle.recording.specs.declared.Header.{Header}
use Rattle.recording.specs.declared.Used.{Used}
use Rattle.recording.proofs.Forms.{bytes_mono, bytes_most}
use Rattle.replay.specs.Events.{stepped}
use Rattle.replay.specs.declared.Session.{Session}
use Rattle.replay_stream.specs.Stream.{Stage, Opening, Events, Midway, Closed, Place, Piece, Hand, Bytes, past, beyond, short, Input, Entries, FarSide, NearSide, Says, Wants, Over, Next, waits, told, near_turn, near_cut, Need, NoSamples, FarSamples, NearSamples, Few, need_of, awaits, side_of, handed, seen, entry_turn, turn_at, turn, silent, turns, next_line}
use Rattle.replay_stream.specs.Hosts.{Rest, rest_after, Front, FairHand, plenty, piece_of, used_of}
use Rattle.replay_stream.proofs.Fronts.{all_there}
use Rattle.replay_stream.proofs.Few.{entry_few}
use Rattle.replay_stream.proofs.Standing.{Stands, fair_past}
use Rattle.replay_stream.proofs.Turning.{StandsAt, turn_law, beyond_twice}

abbrev pub Lacks : Input → Hand → Type 0
Lacks i hand = short (plenty i) (piece_of i hand) ≡ true

-- what a turn wants is short, and nothing was done
abbrev pub Truly : ℕ → Stage → Session → Buffers → Hand → Next → Type 0
Truly n stage s b hand t = (i : Input) → t.answer ≡ Wants i → Lacks i hand × (t ≡ waits n stage s b i)

short_for : (n m k : ℕ) (t : Bool) → n ≤ m → both t (ltb k n) ≡ true → both t (ltb k m) ≡ true
unfolding pick
short_for n m k true le e = lt-ltb k m (omega (arith, ltb-true k n e))
short_for n m k false le e = e

short_more : (n m : ℕ) (p : Piece) → n ≤ m → short n p ≡ true → short m p ≡ true
short_more n m p le e = short_for n m (length p.bytes) (not p.ended) le e

told_wants : (ls : List Line) (i : Input) → told ls ≡ Wants i → ⊥
told_wants [] i e = let z : ◌≡◌ {A = ℕ} 0 1 = cc in omega (arith, z)
told_wants (l ∷ ls) i e = let z : ◌≡◌ {A = ℕ} 0 1 = cc in omega (arith, z)

says_wants : (l : Line) (i : Input) → Says l ≡ Wants i → ⊥
says_wants l i e = let z : ◌≡◌ {A = ℕ} 0 1 = cc in omega (arith, z)

over_wants : (i : Input) → Over ≡ Wants i → ⊥
over_wants i e = let z : ◌≡◌ {A = ℕ} 0 1 = cc in omega (arith, z)

same_input : (i j : Input) → Wants i ≡ Wants j → i ≡ j
same_input i j e = cc

-- `waits` is true to what it names
waits_truly : (n : ℕ) (stage : Stage) (s : Session) (b : Buffers) (hand : Hand) (i : Input) → Lacks i hand → Truly n stage s b hand (waits n stage s b i)
waits_truly n stage s b hand i e j q = (subst (λ (k : Input). Lacks k hand) (same_input i j q) e, ap (waits n stage s b) (same_input i j q))

awaits_short : (h : Header) (u : Used) (hand : Hand) (need : Need) → Few need → awaits h u hand need ≡ true → Lacks (side_of need) hand
awaits_short h u hand NoSamples f e = absurd (false≢true e)
awaits_short h u hand (FarSamples count) f e = short_more (bytes_of h.form count) 16384 hand.far (omega (arith, bytes_most h.form count)) (both_true _ _ e).1
awaits_short h u hand (NearSamples count first) f e = short_more (bytes_of h.form count) 16384 hand.near (omega (arith, bytes_most h.form count)) (both_true _ _ e).1

-- a near event left midway has its bytes: what is not at hand of it is to come
midway_short : (form : Form) (left : ℕ) (near : List ℕ) (p : Piece) → Front near p → bytes_of form left ≤ length near → left ≤ 4096 → ltb (min (length p.bytes) (bytes_of form 4096)) (bytes_of form left) ≡ true → short 16384 p ≡ true
unfolding pick
midway_short form left near p f there few w = short_more (bytes_of form left) 16384 p (omega (arith, bytes_most form left)) (go p.ended refl)
  where
    go : (t : Bool) → p.ended ≡ t → both (not t) (ltb (length p.bytes) (bytes_of form left)) ≡ true
    go false e = lt-ltb (length p.bytes) (bytes_of form left) (omega (arith, bytes_mono form left 4096 few, ltb-true (min (length p.bytes) (bytes_of form 4096)) (bytes_of form left) w))
    go true e = absurd (omega (arith, bytes_mono form left 4096 few, ltb-true (min (length p.bytes) (bytes_of form 4096)) (bytes_of form left) w, ap length (all_there near p f e)))

none_used : (i : Input) (u : Bytes) (hand : Hand) → used_of i u ≡ 0 → piece_of i (beyond u hand) ≡ piece_of i hand
none_used Entries u hand z = ap (λ (k : ℕ). past k hand.events) z
none_used FarSide u hand z = ap (λ (k : ℕ). past k hand.far) z
none_used NearSide u hand z = ap (λ (k : ℕ). past k hand.near) z

module _ (events far near : List ℕ) (h : Header) where
  entry_truly : (n : ℕ) (s : Session) (b : Buffers) (hand : Hand) (k : Option Event) → Few (need_of k) → Truly n Events s b hand (entry_turn h n s b hand k)
  unfolding entry_turn
  entry_truly n s b hand k f =
      let p = stepped h (seen h.form s.used hand) n s b k (handed h.form hand (need_of k)) in
      pick_case (Truly n Events s b hand) (awaits h s.used hand (need_of k)) _ _
      (λ w. waits_truly n Events s b hand (side_of (need_of k)) (awaits_short h s.used hand (need_of k) f w))
      (λ w. pick_case (Truly n Events s b hand) p.ends _ _ (λ e i q. absurd (told_wants p.lines i q)) (λ e i q. absurd (told_wants p.lines i q)))

  stage_truly : (n : ℕ) (stage : Stage) (s : Session) (b : Buffers) (r : Rest) (hand : Hand) → Stands h.form events far near n stage s.used r → FairHand r hand → Truly n stage s b hand (turn_at h n stage s b hand)
  unfolding near_turn
  stage_truly n Opening s b r hand st fair = λ i q. absurd (says_wants _ i q)
  stage_truly n Events s b r hand st fair =
      pick_case (Truly n Events s b hand) (ltb n h.events) _ _
      (λ m. pick_case (Truly n Events s b hand) (short 16 hand.events) _ _ (waits_truly n Events s b hand Entries) (λ w. entry_truly n s b hand (event_at hand.events.bytes 0) (entry_few hand.events.bytes 0)))
      (λ m i q. absurd (says_wants _ i q))
  stage_truly n (Midway e index left) s b r hand st fair =
      pick_case (Truly n (Midway e index left) s b hand) (ltb (min (length hand.near.bytes) (bytes_of h.form 4096)) (bytes_of h.form left)) _ _
      (λ w. waits_truly n (Midway e index left) s b hand NearSide (midway_short h.form left r.near hand.near fair.near st.there st.few w))
      (λ w i q. absurd (told_wants (near_cut e s b (samples_in h.form hand.near.bytes left) index).lines i q))
  stage_truly n Closed s b r hand st fair = λ i q. absurd (over_wants i q)

  pub turn_truly : (p : Place) (b : Buffers) (r : Rest) (hand : Hand) → StandsAt events far near h p r → FairHand r hand → Truly p.number p.stage p.session b hand (turn h p b hand)
  unfolding turn
  turn_truly p b r hand st fair = stage_truly p.number p.stage p.session b r hand st fair

  turns_truly : (more : ℕ) (p : Place) (b : Buffers) (r : Rest) (hand : Hand) → StandsAt events far near h p r → FairHand r hand → (i : Input) → (turns more h p b hand).answer ≡ Wants i
      → Lacks i (beyond (turns more h p b hand).used hand)
  unfolding turns
  turns_truly zero p b r hand st fair i = λ q.
      let w = turn_truly p b r hand st fair i q in
      subst (λ (x : Next). Lacks i (beyond x.used hand)) (sym w.1) w.0
  turns_truly (suc more) p b r hand st fair i =
      let t = turn h p b hand in
      let law = turn_law events far near h p b r hand st fair in
      let m = turns more h t.place t.buffers (beyond t.used hand) in
      pick_case (λ (x : Next). x.answer ≡ Wants i → Lacks i (beyond x.used hand)) (silent t.answer) _ _
      (λ z q. subst (Lacks i) (beyond_twice t.used m.used hand)
      (turns_truly more t.place t.buffers (rest_after t.used r) (beyond t.used hand) law.stands (fair_past t.used r hand fair law.fits) i q))
      (λ z q. let w = turn_truly p b r hand st fair i q in subst (λ (x : Next). Lacks i (beyond x.used hand)) (sym w.1) w.0)

  module _ (p : Place) (b : Buffers) (r : Rest) (hand : Hand) (st : StandsAt events far near h p r) (fair : FairHand r hand) (i : Input) where
    -- a turn wants nothing of an input of which there is plenty at hand
    pub turn_has_plenty : short (plenty i) (piece_of i hand) ≡ false → (turn h p b hand).answer ≡ Wants i → ⊥
    turn_has_plenty e q = false≢true (sym e ∙ (turn_truly p b r hand st fair i q).0)

    -- more is wanted only where it is short behind what was used
    pub wants_truly : (next_line h p b hand).answer ≡ Wants i → Lacks i (beyond (next_line h p b hand).used hand)
    unfolding next_line
    wants_truly q = turns_truly (2 * (h.events - p.number) + 1) p b r hand st fair i q

    -- so that where there was plenty at hand some of it was used: no host waits for ever that hands as much as there is room for
    pub never_stuck : short (plenty i) (piece_of i hand) ≡ false → (next_line h p b hand).answer ≡ Wants i → 0 < used_of i (next_line h p b hand).used
    never_stuck e q = some_used (used_of i u) refl
      where
        u : Bytes
        u = (next_line h p b hand).used

        some_used : (k : ℕ) → used_of i u ≡ k → 0 < used_of i u
        some_used zero z = absurd (false≢true (sym e ∙ subst (λ (x : Piece). short (plenty i) x ≡ true) (none_used i u hand z) (wants_truly q)))
        some_used (suc k) z = omega (arith, z)
