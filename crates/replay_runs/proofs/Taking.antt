-- The turn behind the events: what it leaves, from the bytes behind those that were used; and both together.
use Prim.Native.Nat.{ℕ, ◌+◌, ◌-◌, ◌≤◌, ◌<◌}
use mathlib.Core.Path.{◌≡◌, sym, ap, ◌∙◌, subst}
use mathlib.Core.Bool.{true, false}
use mathlib.Core.List.{List}
use native.Mathlib.Omega.{arith}
use lib.Ieee.{Float}
use lib.ListN.{length, take, drop, length-drop}
use Rattle.scan.specs.State.{Buffers}
use Rattle.recording.specs.declared.Header.{Header}
use Rattle.replay_stream.specs.Stream.{Hand, bytes_used, beyond, Next, turn, silent, on_top, next_line}
use Rattle.replay_stream.specs.declared.Place.{Place}
use Rattle.replay_stream.specs.declared.Bytes.{Bytes}
use Rattle.replay_stream.proofs.Silence.{to_go, turn_nearer}
use Rattle.replay_stream.proofs.Looping as looping
use Rattle.replay_stream.specs.Giving.{hand_of, gives}
use Rattle.replay_stream.specs.declared.Ended.{Ended}
use Rattle.replay_stream.specs.declared.Turned.{Turned}
use Rattle.replay_runs.proofs.Within.{Within, turn_within}
use Rattle.replay_runs.proofs.Silently.{rest_on}
use Rattle.replay_runs.specs.Silences.{Inside, Forward, Starts, Follows, Advances, place_at, before_all, lending}
use Rattle.replay_runs.specs.declared.Silence.{Silence}
use Rattle.replay_stream.specs.declared.Stage.{Stage}
use Rattle.replay_stream.specs.declared.Stage.TheVariants.{Events}
use Rattle.replay_stream.proofs.Silence.{at_most}
use Rattle.floats.proofs.Compare.{le_or_lt}
use mathlib.Core.Logic.{inl, inr}

module _ (h : Header) (ev fr nr : List ℕ) (ended : Ended) (at : Place) (b : Buffers) (u : Bytes) (w : Within (hand_of ev fr nr ended) u) (t : Turned) (b' : Buffers)
    (q : gives t b' ≡ turn h at b (hand_of (take (length ev - u.events) (drop u.events ev)) (take (length fr - u.far) (drop u.far fr)) (take (length nr - u.near) (drop u.near nr)) ended)) where
  abbrev hand : Hand
  hand = hand_of ev fr nr ended

  abbrev both : Bytes
  both = bytes_used (u.events + t.used.events) (u.far + t.used.far) (u.near + t.used.near)

  here : gives t b' ≡ turn h at b (beyond u hand)
  here =
      q
      ∙ ap (λ (s : List ℕ). turn h at b (hand_of s (take (length fr - u.far) (drop u.far fr)) (take (length nr - u.near) (drop u.near nr)) ended)) (rest_on ev u.events)
      ∙ ap (λ (s : List ℕ). turn h at b (hand_of (drop u.events ev) s (take (length nr - u.near) (drop u.near nr)) ended)) (rest_on fr u.far)
      ∙ ap (λ (s : List ℕ). turn h at b (hand_of (drop u.events ev) (drop u.far fr) s ended)) (rest_on nr u.near)

  pub sum_within : Within hand both
  sum_within =
      let v = turn_within h (beyond u hand) at b in
      record {
        events = omega (arith, w.events, v.events, ap (λ (x : Next). x.used.events) here, length-drop u.events ev);
        far = omega (arith, w.far, v.far, ap (λ (x : Next). x.used.far) here, length-drop u.far fr);
        near = omega (arith, w.near, v.near, ap (λ (x : Next). x.used.near) here, length-drop u.near nr);
      }

  pub nearer : silent t.answer ≡ true → to_go h t.place.number t.place.stage < to_go h at.number at.stage
  nearer z =
      subst (λ (x : Next). to_go h x.place.number x.place.stage < to_go h at.number at.stage) (sym here)
      (turn_nearer h at b (beyond u hand) (ap (λ (x : Next). silent x.answer) (sym here) ∙ z))

  module _ (asked : Next) (is : looping.Underway h asked hand at b u) where
    pub again : silent t.answer ≡ true → looping.Underway h asked hand t.place b' both
    again z =
        subst (λ (x : Next). looping.Underway h asked hand x.place x.buffers (bytes_used (u.events + x.used.events) (u.far + x.used.far) (u.near + x.used.near))) (sym here)
        (looping.loop_again h asked hand at b u is (ap (λ (x : Next). silent x.answer) (sym here) ∙ z))

    pub ends : silent t.answer ≡ false → on_top u (gives t b') ≡ asked
    ends z = sym (looping.loop_ends h asked hand at b u is (ap (λ (x : Next). silent x.answer) (sym here) ∙ z) ∙ ap (on_top u) (sym here))

-- ---- a turn, with no event before it

module _ (h : Header) (p : Place) (b : Buffers) (ev fr nr : List ℕ) (ended : Ended) (t : Turned) (b' : Buffers) (q : gives t b' ≡ turn h p b (hand_of ev fr nr ended)) where
  pub only_turn : Advances h p b ev fr nr ended t b'
  only_turn =
      let hand = hand_of ev fr nr ended in
      let w = turn_within h hand p b in
      record {
        on = λ z. looping.unroll h p b hand (ap (λ (x : Next). silent x.answer) (sym q) ∙ z) ∙ ap (λ (x : Next). on_top x.used (next_line h x.place x.buffers (beyond x.used hand))) (sym q);
        over = λ z. looping.settles h p b hand (ap (λ (x : Next). silent x.answer) (sym q) ∙ z) ∙ sym q;
        nearer = λ z. subst (λ (x : Next). to_go h x.place.number x.place.stage < to_go h p.number p.stage) (sym q) (turn_nearer h p b hand (ap (λ (x : Next). silent x.answer) (sym q) ∙ z));
        inside = subst (λ (x : Next). Within hand x.used) (sym q) w;
      }

-- ---- a turn behind events

to_go_lem : (h : Header) (n : ℕ) (p : Place) → Forward h n p → to_go h p.number p.stage ≤ to_go h n Events
to_go_lem h n p f = elim (le_or_lt p.number n) [
  | inl none ↦
      let e : n ≡ p.number = omega (arith, none, f.least) in
      let k : to_go h p.number p.stage ≡ to_go h p.number Events = ap (to_go h p.number) (f.still e) in
      omega (arith, k, e)
  | inr some ↦ omega (arith, some, f.most some, at_most h p.number p.stage)
]

module _ (h : Header) (p : Place) (b : Buffers) (ev fr nr : List ℕ) (ended : Ended) (start : Starts p) (e l : List Float) (last : Silence) (e' l' : List Float) (f : Follows h p.session ev fr nr (before_all p) e l last e' l') where
  abbrev all : Hand
  all = hand_of ev fr nr ended

  abbrev place : Place
  place = place_at p.session last

  abbrev before : Buffers
  before = lending b e l

  abbrev behind : Buffers
  behind = lending b e' l'

  first_is : place_at p.session (before_all p) ≡ p
  first_is = ap (λ (z : Stage). record { number = p.number; stage = z; session = p.session }) (sym start.stage)

  underway : looping.Underway h (next_line h p before all) all place behind last.bytes
  underway =
      looping.loop_holds h (next_line h p before all) all (place_at p.session (before_all p)) before (ap (λ (z : Place). next_line h z before all) (sym first_is))
      ∙ f.same b ended

  module _ (t : Turned) (b'' : Buffers)
      (q : gives t b'' ≡ turn h place behind (hand_of (take (length ev - last.bytes.events) (drop last.bytes.events ev)) (take (length fr - last.bytes.far) (drop last.bytes.far fr)) (take (length nr - last.bytes.near) (drop last.bytes.near nr)) ended)) where
    pub sum_inside : Inside ev fr nr (bytes_used (last.bytes.events + t.used.events) (last.bytes.far + t.used.far) (last.bytes.near + t.used.near))
    sum_inside = sum_within h ev fr nr ended place behind last.bytes f.inside t b'' q

    pub behind_events : Advances h p before ev fr nr ended (record { place = t.place; answer = t.answer; used = bytes_used (last.bytes.events + t.used.events) (last.bytes.far + t.used.far) (last.bytes.near + t.used.near) }) b''
    behind_events =
        let forth = to_go_lem h p.number place f.forward in
        let stage : to_go h p.number p.stage ≡ to_go h p.number Events = ap (to_go h p.number) start.stage in
        record {
          on = again h ev fr nr ended place behind last.bytes f.inside t b'' q _ underway;
          over = λ z. sym (ends h ev fr nr ended place behind last.bytes f.inside t b'' q _ underway z);
          nearer = λ z. omega (arith, forth, stage, nearer h ev fr nr ended place behind last.bytes f.inside t b'' q z);
          inside = sum_inside;
        }
