-- The loop: what an advance of the code leaves, from the bytes behind those that were used.
use Prim.Native.Nat.{ℕ, ◌+◌, ◌-◌, ◌<◌}
use mathlib.Core.Path.{◌≡◌, sym, ap, ◌∙◌, subst}
use mathlib.Core.Bool.{true, false}
use mathlib.Core.List.{List}
use native.Mathlib.Omega.{arith}
use lib.Ieee.{Float}
use lib.ListN.{length, take, drop, length-drop}
use Rattle.scan.specs.State.{Buffers}
use Rattle.recording.specs.declared.Header.{Header}
use Rattle.replay_stream.specs.Stream.{Hand, bytes_used, Next, silent, on_top, next_line, to_go}
use Rattle.replay_stream.specs.Giving.{hand_of, gives}
use Rattle.replay_stream.specs.declared.Place.{Place}
use Rattle.replay_stream.specs.declared.Bytes.{Bytes}
use Rattle.replay_stream.specs.declared.Ended.{Ended}
use Rattle.replay_stream.specs.declared.Turned.{Turned}
use Rattle.replay_stream.proofs.Looping as looping
use Rattle.replay_stream.proofs.Turning.{beyond_twice}
use Rattle.replay_runs.specs.Silences.{Inside, Advances}
use Rattle.replay_runs.proofs.Silently.{rest_on}

-- every lent list is as long as it was
pub record Kept (x₀ e₀ l₀ w₀ p₀ q₀ c₀ t₀ x e l w p q c t : List Float) : Type 0 where
  pub samples : length x ≡ length x₀
  pub envelope : length e ≡ length e₀
  pub levels : length l ≡ length l₀
  pub window : length w ≡ length w₀
  pub prefix : length p ≡ length p₀
  pub squares : length q ≡ length q₀
  pub scores : length c ≡ length c₀
  pub sums : length t ≡ length t₀

module _ (h : Header) (ev fr nr : List ℕ) (ended : Ended) (at : Place) (b : Buffers) (u : Bytes) (w : Inside ev fr nr u) (t : Turned) (b' : Buffers)
    (q : Advances h at b (take (length ev - u.events) (drop u.events ev)) (take (length fr - u.far) (drop u.far fr)) (take (length nr - u.near) (drop u.near nr)) ended t b') where
  abbrev hand : Hand
  hand = hand_of ev fr nr ended

  abbrev both : Bytes
  both = bytes_used (u.events + t.used.events) (u.far + t.used.far) (u.near + t.used.near)

  here : Advances h at b (drop u.events ev) (drop u.far fr) (drop u.near nr) ended t b'
  here =
      subst (λ (s : List ℕ). Advances h at b (drop u.events ev) (drop u.far fr) s ended t b') (rest_on nr u.near)
      (subst (λ (s : List ℕ). Advances h at b (drop u.events ev) s (take (length nr - u.near) (drop u.near nr)) ended t b') (rest_on fr u.far)
      (subst (λ (s : List ℕ). Advances h at b s (take (length fr - u.far) (drop u.far fr)) (take (length nr - u.near) (drop u.near nr)) ended t b') (rest_on ev u.events) q))

  pub sum_within : Inside ev fr nr both
  sum_within =
      let v = here.inside in
      record {
        events = omega (arith, w.events, v.events, length-drop u.events ev);
        far = omega (arith, w.far, v.far, length-drop u.far fr);
        near = omega (arith, w.near, v.near, length-drop u.near nr);
      }

  pub nearer : silent t.answer ≡ true → to_go h t.place.number t.place.stage < to_go h at.number at.stage
  nearer z = here.nearer z

  module _ (asked : Next) (is : looping.Underway h asked hand at b u) where
    pub again : silent t.answer ≡ true → looping.Underway h asked hand t.place b' both
    again z =
        is
        ∙ ap (on_top u) (here.on z)
        ∙ looping.add_twice u t.used _
        ∙ ap (λ (g : Hand). on_top both (next_line h t.place b' g)) (beyond_twice u t.used hand)

    pub ends : silent t.answer ≡ false → on_top u (gives t b') ≡ asked
    ends z = sym (is ∙ ap (on_top u) (here.over z))
