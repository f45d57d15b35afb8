-- `next_line` has turns enough: it never answers Silent. Each silent turn brings the stream nearer to its close.
use Rattle.std.specs.Prelude.{Option}
use Rattle.recording.specs.declared.Event.{Event}
use Prim.Native.Nat.{ℕ, zero, suc, ◌+◌, ◌-◌, ◌*◌, ◌≤◌, ◌<◌, min}
use mathlib.Core.Path.{◌≡◌, refl, sym, ap, ◌∙◌, subst}
use mathlib.Core.Bool.{true, false≢true}
use mathlib.Core.List.{List, [], ◌∷◌}
use native.Mathlib.Omega.{arith}
use lib.Dec.{ltb}
use lib.Ieee.{Float}
use lib.ListN.{length}
use borrow.Author.Tests.{ltb-true}
use Rattle.answers.specs.Pick.{pick_case}
use Rattle.scan.specs.State.{Buffers}
use Rattle.log_lines.specs.declared.Line.{Line}
use Rattle.recording.specs.Recording.{event_at}
use Rattle.recording.specs.Samples.{bytes_of, samples_in}
use Rattle.recording.specs.declared.Header.{Header}
use Rattle.replay.specs.Events.{stepped}
use Rattle.replay.specs.declared.Session.{Session}
pub use Rattle.replay_stream.specs.Stream.{to_go}
use Rattle.replay_stream.specs.Stream.{Stage, Opening, Events, Midway, Closed, Place, Hand, beyond, short, Silent, Next, told, no_lines, near_cut, midway, near_turn, Need, NoSamples, FarSamples, NearSamples, need_of, awaits, handed, stage_after, seen, entry_turn, turn_at, turn, silent, turns, next_line}
use Rattle.replay_stream.proofs.Cutting.{cuts}

told_none : (ls : List Line) → silent (told ls) ≡ true → no_lines ls ≡ true
told_none [] e = refl
told_none (l ∷ ls) e = absurd (false≢true e)

stage_near : (h : Header) (n e : ℕ) (need : Need) → to_go h n (stage_after e need) ≤ 2 * (h.events - n) + 1
stage_near h n e NoSamples = omega arith
stage_near h n e (FarSamples count) = omega arith
stage_near h n e (NearSamples zero first) = omega arith
stage_near h n e (NearSamples (suc count) first) = omega arith

module _ (h : Header) where
  -- a silent turn comes nearer
  abbrev Nearer : ℕ → Stage → Next → Type 0
  Nearer n stage t = silent t.answer ≡ true → to_go h t.place.number t.place.stage < to_go h n stage

  entry_nearer : (n : ℕ) (s : Session) (b : Buffers) (hand : Hand) (k : Option Event) → n < h.events → Nearer n Events (entry_turn h n s b hand k)
  unfolding entry_turn
  entry_nearer n s b hand k more =
      let p = stepped h (seen h.form s.used hand) n s b k (handed h.form hand (need_of k)) in
      pick_case (Nearer n Events) (awaits h s.used hand (need_of k)) _ _
      (λ w q. absurd (false≢true q))
      (λ w. pick_case (Nearer n Events) p.ends _ _
      (λ e q. omega arith)
      (λ e q. omega (arith, stage_near h (n + 1) n (need_of k))))

  near_nearer : (n e index left : ℕ) (s : Session) (b : Buffers) (hand : Hand) → Nearer n (Midway e index left) (near_turn h.form n e index left s b hand)
  unfolding near_turn
  near_nearer n e index left s b hand q =
      let xs = samples_in h.form hand.near.bytes left in
      let c = near_cut e s b xs index in
      let z = (cuts e s b xs index).stops (told_none c.lines q) in
      subst (λ (ys : List Float). to_go h n (midway e c.index (length ys)) < 2 * (h.events - n) + 1) (sym z) (omega arith)

  stage_nearer : (n : ℕ) (stage : Stage) (s : Session) (b : Buffers) (hand : Hand) → Nearer n stage (turn_at h n stage s b hand)
  stage_nearer n Opening s b hand = λ q. absurd (false≢true q)
  stage_nearer n Events s b hand =
      pick_case (Nearer n Events) (ltb n h.events) _ _
      (λ m. pick_case (Nearer n Events) (short 16 hand.events) _ _ (λ w q. absurd (false≢true q)) (λ w. entry_nearer n s b hand (event_at hand.events.bytes 0) (ltb-true n h.events m)))
      (λ m q. absurd (false≢true q))
  stage_nearer n (Midway e index left) s b hand =
      pick_case (Nearer n (Midway e index left)) (ltb (min (length hand.near.bytes) (bytes_of h.form 4096)) (bytes_of h.form left)) _ _ (λ w q. absurd (false≢true q)) (λ w. near_nearer n e index left s b hand)
  stage_nearer n Closed s b hand = λ q. absurd (false≢true q)

  pub turn_nearer : (p : Place) (b : Buffers) (hand : Hand) → Nearer p.number p.stage (turn h p b hand)
  unfolding turn
  turn_nearer p b hand = stage_nearer p.number p.stage p.session b hand

  -- a row of silent turns is no longer than there can be
  turns_few : (more : ℕ) (p : Place) (b : Buffers) (hand : Hand) → silent (turns more h p b hand).answer ≡ true → more < to_go h p.number p.stage
  unfolding turns
  turns_few zero p b hand = λ q. omega (arith, turn_nearer p b hand q)
  turns_few (suc more) p b hand =
      let t = turn h p b hand in
      pick_case (λ (m : Next). silent m.answer ≡ true → suc more < to_go h p.number p.stage) (silent t.answer) _ _
      (λ one q. omega (arith, turn_nearer p b hand one, turns_few more t.place t.buffers (beyond t.used hand) q))
      (λ one q. absurd (false≢true (sym one ∙ q)))

  pub at_most : (n : ℕ) (stage : Stage) → to_go h n stage ≤ 2 * (h.events - n) + 1
  at_most n Opening = omega arith
  at_most n Events = omega arith
  at_most n (Midway e index left) = omega arith
  at_most n Closed = omega arith

  pub never_silent : (p : Place) (b : Buffers) (hand : Hand) → (next_line h p b hand).answer ≡ Silent → ⊥
  unfolding next_line
  never_silent p b hand q = omega (arith, turns_few (2 * (h.events - p.number) + 1) p b hand (ap silent q), at_most p.number p.stage)
