-- For the code: `next_line` as a loop of turns. Before each turn, what was asked is what comes from here, on top of the bytes used so far; a silent turn keeps that, and
-- brings `to_go` down (`turn_nearer`); any other turn is the answer.
use Prim.Native.Nat.{ℕ, zero, suc, ◌+◌, ◌-◌, ◌*◌, ◌≤◌}
use mathlib.Core.Path.{◌≡◌, refl, sym, ap, ◌∙◌}
use mathlib.Core.Bool.{true, false}
use native.Mathlib.Nat.{zero-add}
use native.Mathlib.Omega.{arith}
use Rattle.answers.specs.Pick.{pick_true, pick_false, pick_case}
use Rattle.scan.specs.State.{Buffers}
use Rattle.recording.specs.declared.Header.{Header}
use Rattle.replay_stream.specs.Stream.{Place, Hand, Bytes, bytes_used, beyond, Next, turn, silent, on_top, turns, next_line}
use Rattle.replay_stream.proofs.Silence.{to_go, turn_nearer, at_most}
use Rattle.replay_stream.proofs.Turning.{beyond_twice}

-- ---- turns enough are as good as more

abbrev left : Header → Place → ℕ
left h p = to_go h p.number p.stage

module _ (h : Header) where
  one_more : (k : ℕ) (p : Place) (b : Buffers) (hand : Hand) → left h p ≤ k → turns (suc k) h p b hand ≡ turns k h p b hand
  unfolding turns
  one_more zero p b hand m =
      let t = turn h p b hand in
      pick_case (λ (x : Next). x ≡ t) (silent t.answer) _ _ (λ z. absurd (omega (arith, turn_nearer h p b hand z))) (λ z. refl)
  one_more (suc k) p b hand m =
      let t = turn h p b hand in
      pick_case (λ (x : Next). x ≡ turns (suc k) h p b hand) (silent t.answer) _ _
      (λ z. ap (on_top t.used) (one_more k t.place t.buffers (beyond t.used hand) (omega (arith, turn_nearer h p b hand z))) ∙ sym (pick_true (silent t.answer) _ _ z))
      (λ z. sym (pick_false (silent t.answer) _ _ z))

  some_more : (d k : ℕ) (p : Place) (b : Buffers) (hand : Hand) → left h p ≤ k → turns (d + k) h p b hand ≡ turns k h p b hand
  some_more zero k p b hand m = ap (λ (j : ℕ). turns j h p b hand) (zero-add k)
  some_more (suc d) k p b hand m =
      let e : suc d + k ≡ suc (d + k) = omega arith in
      ap (λ (j : ℕ). turns j h p b hand) e ∙ one_more (d + k) p b hand (omega arith) ∙ some_more d k p b hand m

  as_many : (k : ℕ) (p : Place) (b : Buffers) (hand : Hand) → left h p ≤ k → turns k h p b hand ≡ next_line h p b hand
  unfolding next_line
  as_many k p b hand m =
      let f = 2 * (h.events - p.number) + 1 in
      let e : f + k ≡ k + f = omega arith in
      sym (some_more f k p b hand m) ∙ ap (λ (j : ℕ). turns j h p b hand) e ∙ some_more k f p b hand (at_most h p.number p.stage)

  -- a silent turn is a part of what follows
  pub unroll : (p : Place) (b : Buffers) (hand : Hand) → silent (turn h p b hand).answer ≡ true
      → next_line h p b hand ≡ on_top (turn h p b hand).used (next_line h (turn h p b hand).place (turn h p b hand).buffers (beyond (turn h p b hand).used hand))
  unfolding turns
  unroll p b hand z =
      let t = turn h p b hand in
      let k = left h p in
      sym (as_many (suc k) p b hand (omega arith))
      ∙ pick_true (silent t.answer) _ _ z
      ∙ ap (on_top t.used) (as_many k t.place t.buffers (beyond t.used hand) (omega (arith, turn_nearer h p b hand z)))

  -- any other turn is the answer
  pub settles : (p : Place) (b : Buffers) (hand : Hand) → silent (turn h p b hand).answer ≡ false → next_line h p b hand ≡ turn h p b hand
  unfolding turns
  settles p b hand z = sym (as_many (suc (left h p)) p b hand (omega arith)) ∙ pick_false (silent (turn h p b hand).answer) _ _ z

-- ---- bytes used before

pub add_none : (n : Next) → on_top (bytes_used 0 0 0) n ≡ n
add_none n = rw (zero-add n.used.events, zero-add n.used.far, zero-add n.used.near)

pub add_twice : (u v : Bytes) (n : Next) → on_top u (on_top v n) ≡ on_top (bytes_used (u.events + v.events) (u.far + v.far) (u.near + v.near)) n
add_twice u v n =
    let e : u.events + (v.events + n.used.events) ≡ u.events + v.events + n.used.events = omega arith in
    let f : u.far + (v.far + n.used.far) ≡ u.far + v.far + n.used.far = omega arith in
    let g : u.near + (v.near + n.used.near) ≡ u.near + v.near + n.used.near = omega arith in
    rw (e, f, g)

-- ---- the loop

abbrev sum : Bytes → Bytes → Bytes
sum u v = bytes_used (u.events + v.events) (u.far + v.far) (u.near + v.near)

module _ (h : Header) (asked : Next) (hand : Hand) where
  -- what was asked, from here
  abbrev pub Underway : Place → Buffers → Bytes → Type 0
  Underway p b u = asked ≡ on_top u (next_line h p b (beyond u hand))

  pub loop_holds : (p : Place) (b : Buffers) → asked ≡ next_line h p b hand → Underway p b (bytes_used 0 0 0)
  loop_holds p b q = q ∙ sym (add_none (next_line h p b hand))

  module _ (p : Place) (b : Buffers) (u : Bytes) (is : Underway p b u) where
    abbrev t : Next
    t = turn h p b (beyond u hand)

    pub loop_again : silent t.answer ≡ true → Underway t.place t.buffers (sum u t.used)
    loop_again z =
        is
        ∙ ap (on_top u) (unroll h p b (beyond u hand) z)
        ∙ add_twice u t.used _
        ∙ ap (λ (g : Hand). on_top (sum u t.used) (next_line h t.place t.buffers g)) (beyond_twice u t.used hand)

    pub loop_ends : silent t.answer ≡ false → asked ≡ on_top u t
    loop_ends z = is ∙ ap (on_top u) (settles h p b (beyond u hand) z)
