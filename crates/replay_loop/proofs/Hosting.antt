-- One turn as a call of a host, and where a host stands behind a history of turns.
use Prim.Native.Nat.{ℕ, ◌≤◌}
use mathlib.Core.Path.{◌≡◌, refl, sym, ap, subst, ◌∙◌}
use mathlib.Core.List.{List, ◌++◌, append_assoc}
use lib.ListN.{length, drop}
use lib.Seq.{drop-append-le}
use Rattle.scan.specs.State.{Buffers}
use Rattle.pipes.specs.Window.{at_hand, over, Moved}
use Rattle.pipes.specs.declared.window.Window.{Window}
use Rattle.pipes.proofs.Going.{nothing_comes, hand_on}
use Rattle.log_lines.specs.declared.Line.{Line}
use Rattle.recording.specs.declared.Header.{Header}
use Rattle.replay_stream.specs.Giving.{gives}
use Rattle.replay_stream.specs.Hosts.{Rest, rest, rest_after, NextCall}
use Rattle.replay_stream.specs.declared.Place.{Place}
use Rattle.replay_stream.proofs.Standing.{Fits}
use Rattle.replay_stream.proofs.Turning as turning
use Rattle.replay_inputs.specs.Inputs.{hand_at}
use Rattle.replay_step.specs.Step.{Turn}
use Rattle.replay_step.specs.declared.Stream.{Stream}
use Rattle.replay_loop.specs.Turns.{behind, came_by, Turns, none, more}
use Rattle.replay_loop.specs.Reads.{rest_at, Fairly}

rest_same : {a a' b b' c c' : List ℕ} → a ≡ a' → b ≡ b' → c ≡ c' → rest a b c ≡ rest a' b' c'
rest_same {a} {a'} {b} {b'} {c} {c'} p q r = ap (λ (x : List ℕ). rest x b c) p ∙ ap (λ (x : List ℕ). rest a' x c) q ∙ ap (λ (x : List ℕ). rest a' b' x) r

pub behind_behind : (x y z : Rest) → behind (behind x y) z ≡ behind x (behind y z)
behind_behind x y z = rest_same (append_assoc x.events y.events z.events) (append_assoc x.far y.far z.far) (append_assoc x.near y.near z.near)

-- what was used stood at the front
used_front : (u : ℕ) (w w' : Window) (room room' later : List ℕ) (m : Moved u w room w' room') → u ≤ length (at_hand w room) → drop u (at_hand w room ++ (m.came ++ later)) ≡ at_hand w' room' ++ later
used_front u w w' room room' later m h = drop-append-le u (at_hand w room) (m.came ++ later) h ∙ sym (hand_on u w w' room room' m later)

module _ {h : Header} {s s' : Stream} {b b' : Buffers} {e f n room e' f' n' room' : List ℕ} (one : Turn h s b e f n room s' b' e' f' n' room') (l : Rest) (fair : Fairly s'.inputs l) where
  abbrev pub rest_before : Rest
  rest_before = rest_at s.inputs e f n (behind (came_by one) l)

  pub fair_before : Fairly s.inputs (behind (came_by one) l)
  fair_before =
      let i = one.heeded.inputs in
      record {
        events = nothing_comes _ _ _ _ _ i.events.moved l.events fair.events;
        far = nothing_comes _ _ _ _ _ i.far.moved l.far fair.far;
        near = nothing_comes _ _ _ _ _ i.near.moved l.near fair.near;
      }

  abbrev pub call : NextCall h s.place b rest_before
  call =
      record {
        hand = hand_at s.inputs e f n;
        fair = record {
          events = record { later = (behind (came_by one) l).events; joins = refl; last = fair_before.events };
          far = record { later = (behind (came_by one) l).far; joins = refl; last = fair_before.far };
          near = record { later = (behind (came_by one) l).near; joins = refl; last = fair_before.near };
        };
        gave = gives one.gave b';
        contract = one.asked;
      }

  used_is : Fits one.gave.used (hand_at s.inputs e f n) → rest_after one.gave.used rest_before ≡ rest_at s'.inputs e' f' n' l
  used_is fits =
      let i = one.heeded.inputs in
      rest_same (used_front _ _ _ _ _ l.events i.events.moved fits.events) (used_front _ _ _ _ _ l.far i.far.moved fits.far) (used_front _ _ _ _ _ l.near i.near.moved fits.near)

  module _ (events far near : List ℕ) (st : turning.StandsAt events far near h s.place rest_before) where
    law : turning.At events far near h s.place b rest_before (hand_at s.inputs e f n) (gives one.gave b')
    law = subst (turning.At events far near h s.place b rest_before (hand_at s.inputs e f n)) (sym one.asked) (turning.next_law events far near h s.place b rest_before (hand_at s.inputs e f n) st call.fair)

    pub unused_is : rest_after one.gave.used rest_before ≡ rest_at s'.inputs e' f' n' l
    unused_is = used_is law.fits

    pub stands_after : turning.StandsAt events far near h s'.place (rest_at s'.inputs e' f' n' l)
    stands_after =
        subst (λ (p : Place). turning.StandsAt events far near h p (rest_at s'.inputs e' f' n' l)) (sym one.heeded.place)
        (subst (turning.StandsAt events far near h one.gave.place) unused_is law.stands)

-- ---- turn after turn

abbrev pub StandsFrom : List ℕ → List ℕ → List ℕ → Header → Stream → List ℕ → List ℕ → List ℕ → Rest → Type 0
StandsFrom events far near h s e f n l = turning.StandsAt events far near h s.place (rest_at s.inputs e f n l)

pub stands_behind : (events far near : List ℕ) (h : Header) (s : Stream) (e f n : List ℕ) (x y l : Rest) → StandsFrom events far near h s e f n (behind (behind x y) l) → StandsFrom events far near h s e f n (behind x (behind y l))
stands_behind events far near h s e f n x y l st = subst (StandsFrom events far near h s e f n) (behind_behind x y l) st

pub stands_on : (events far near : List ℕ) {h : Header} {s : Stream} {b : Buffers} {e f n room : List ℕ} {x : Rest} {y : List ℕ} {ls : List Line} {u : Stream} {d : Buffers} {e' f' n' room' : List ℕ}
    → Turns h s b e f n room x y ls u d e' f' n' room' → (l : Rest) → Fairly u.inputs l → StandsFrom events far near h s e f n (behind x l) → StandsFrom events far near h u e' f' n' l
stands_on events far near none l fair st = st
stands_on events far near {h = h} {s = s} {e = e} {f = f} {n = n} (more {x = x} before over right one) l fair st =
    stands_after one l fair events far near (stands_on events far near before (behind (came_by one) l) (fair_before one l fair) (stands_behind events far near h s e f n x (came_by one) l st))
