-- What a host notes, each line with the session behind it, is a function of the recording: however its bytes come in, it is what all bytes at hand give.
use Rattle.std.specs.Prelude.{Some}
use Prim.Native.Nat.{ℕ, zero, suc, ◌+◌, ◌-◌, ◌*◌, ◌≤◌}
use mathlib.Core.Path.{◌≡◌, refl, sym, ap, ◌∙◌, subst}
use mathlib.Core.List.{List, [], ◌∷◌}
use native.Mathlib.Omega.{arith}
use lib.ListN.{length, drop}
use Rattle.answers.specs.Pick.{pick_case}
use Rattle.scan.specs.State.{Buffers}
use Rattle.log_lines.specs.declared.Line.{Line}
use Rattle.recording.specs.Recording.{offset_of, opened}
use Rattle.recording.specs.declared.Header.{Header}
use Rattle.replay.specs.Beginning.{beginning, beginning_of}
use Rattle.replay.specs.Log.{log_of, new_session}
use Rattle.replay.specs.declared.Session.{Session}
use Rattle.replay.specs.declared.Begun.TheVariants as begun
use Rattle.replay.proofs.Ready.{ready_is}
use Rattle.replay_stream.specs.Stream.{Place, Hand, beyond, Input, Answer, Says, Wants, Over, Next, waits, turn, silent, on_top, turns, next_line}
use Rattle.replay_stream.specs.Hosts.{Rest, rest, rest_after, FairHand, NextCall, Noted, noted, lines_of, Streamed, over, says, wants, opens}
use Rattle.replay_stream.specs.Notes.{whole_hand, note_of, notes, noted_of}
use Rattle.replay_stream.proofs.Standing.{fair_past}
use Rattle.replay_stream.proofs.Turning.{At, StandsAt, turn_law, next_law, unused_twice}
use Rattle.replay_stream.proofs.Wanting.{turn_truly}
use Rattle.replay_stream.proofs.Whole.{ready_stands, opened_log}
use Rattle.replay_stream.proofs.Looping.{unroll, add_none, add_twice}
use Rattle.replay_stream.proofs.Alike.{Settled, same_turn, silent_settled, same_answer}

says_settled : (l : Line) → Settled (Says l)
says_settled l i e = let z : ◌≡◌ {A = ℕ} 0 1 = cc in omega (arith, z)

over_settled : Settled Over
over_settled i e = let z : ◌≡◌ {A = ℕ} 0 1 = cc in omega (arith, z)

module _ (events far near : List ℕ) (h : Header) where
  -- all that is left gives, from here on, what it gives behind these
  abbrev Part : Place → Buffers → Rest → Next → Type 0
  Part p b r t = next_line h p b (whole_hand r) ≡ on_top t.used (next_line h t.place t.buffers (whole_hand (rest_after t.used r)))

  waits_part : (p : Place) (b : Buffers) (r : Rest) (i : Input) → Part p b r (waits p.number p.stage p.session b i)
  waits_part p b r i = sym (add_none (next_line h p b (whole_hand r)))

  turns_part : (more : ℕ) (p : Place) (b : Buffers) (r : Rest) (hand : Hand) → StandsAt events far near h p r → FairHand r hand → (i : Input) → (turns more h p b hand).answer ≡ Wants i
      → Part p b r (turns more h p b hand)
  unfolding turns
  turns_part zero p b r hand st fair i = λ q. subst (Part p b r) (sym (turn_truly events far near h p b r hand st fair i q).1) (waits_part p b r i)
  turns_part (suc more) p b r hand st fair i =
      let t = turn h p b hand in
      let m = turns more h t.place t.buffers (beyond t.used hand) in
      let law = turn_law events far near h p b r hand st fair in
      pick_case (λ (x : Next). x.answer ≡ Wants i → Part p b r x) (silent t.answer) _ _
      (λ z q.
      let one = same_turn events far near h p b r hand st fair (silent_settled t.answer z) in
      let two = turns_part more t.place t.buffers (rest_after t.used r) (beyond t.used hand) law.stands (fair_past t.used r hand fair law.fits) i q in
      unroll h p b (whole_hand r) (ap (λ (x : Next). silent x.answer) (sym one) ∙ z)
      ∙ ap (λ (x : Next). on_top x.used (next_line h x.place x.buffers (beyond x.used (whole_hand r)))) (sym one)
      ∙ ap (on_top t.used) two
      ∙ add_twice t.used m.used _
      ∙ ap (λ (x : Rest). on_top (on_top t.used m).used (next_line h m.place m.buffers (whole_hand x))) (unused_twice t.used m.used r))
      (λ z q. subst (Part p b r) (sym (turn_truly events far near h p b r hand st fair i q).1) (waits_part p b r i))

  wants_part : (p : Place) (b : Buffers) (r : Rest) (hand : Hand) → StandsAt events far near h p r → FairHand r hand → (i : Input) → (next_line h p b hand).answer ≡ Wants i
      → Part p b r (next_line h p b hand)
  unfolding next_line
  wants_part p b r hand st fair i q = turns_part (2 * (h.events - p.number) + 1) p b r hand st fair i q

  -- ---- the notes

  abbrev note_by : ℕ → Rest → Next → List Noted
  note_by k r t = note_of t.answer t.place.session (notes k h t.place t.buffers (rest_after t.used r))

  note_past : (k : ℕ) (p : Place) (b : Buffers) (r : Rest) (t : Next) → Part p b r t → notes k h p b r ≡ notes k h t.place t.buffers (rest_after t.used r)
  unfolding notes
  note_past zero p b r t e = refl
  note_past (suc k) p b r t e =
      let m = next_line h t.place t.buffers (whole_hand (rest_after t.used r)) in
      ap (note_by k r) e
      ∙ ap (λ (x : Rest). note_of m.answer m.place.session (notes k h m.place m.buffers x)) (sym (unused_twice t.used m.used r))

  -- what a settled call gave is noted
  note_call : (k : ℕ) (p : Place) (b : Buffers) (r : Rest) (c : NextCall h p b r) (a : Answer) → StandsAt events far near h p r → c.gave.answer ≡ a → Settled a
      → notes (suc k) h p b r ≡ note_of a c.gave.place.session (notes k h c.gave.place c.gave.buffers (rest_after c.gave.used r))
  unfolding notes
  note_call k p b r c a st q settled =
      let given : (next_line h p b c.hand).answer ≡ a = ap (λ (x : Next). x.answer) (sym c.contract) ∙ q in
      let same = same_answer events far near h p b r c.hand st c.fair (λ i e. settled i (sym given ∙ e)) in
      ap (note_by k r) (sym same ∙ sym c.contract)
      ∙ ap (λ (x : Answer). note_of x c.gave.place.session (notes k h c.gave.place c.gave.buffers (rest_after c.gave.used r))) q

  call_stands : (p : Place) (b : Buffers) (r : Rest) (c : NextCall h p b r) → StandsAt events far near h p r → StandsAt events far near h c.gave.place (rest_after c.gave.used r)
  call_stands p b r c st = (subst (At events far near h p b r c.hand) (sym c.contract) (next_law events far near h p b r c.hand st c.fair)).stands

  over_noted : (k : ℕ) (p : Place) (b : Buffers) (r : Rest) (c : NextCall h p b r) → StandsAt events far near h p r → c.gave.answer ≡ Over → [] ≡ notes k h p b r
  unfolding notes
  over_noted zero p b r c st q = refl
  over_noted (suc k) p b r c st q = sym (note_call k p b r c Over st q over_settled)

  says_noted : (k : ℕ) (p : Place) (b : Buffers) (r : Rest) (c : NextCall h p b r) (l : Line) (ts : List Noted) → StandsAt events far near h p r → c.gave.answer ≡ Says l → suc (length ts) ≤ k
      → ((j : ℕ) → length ts ≤ j → ts ≡ notes j h c.gave.place c.gave.buffers (rest_after c.gave.used r)) → noted l c.gave.place.session ∷ ts ≡ notes k h p b r
  says_noted zero p b r c l ts st q m later = absurd (omega (arith, m))
  says_noted (suc k) p b r c l ts st q m later =
      ap (λ (us : List Noted). noted l c.gave.place.session ∷ us) (later k (omega (arith, m))) ∙ sym (note_call k p b r c (Says l) st q (says_settled l))

  wants_noted : (k : ℕ) (p : Place) (b : Buffers) (r : Rest) (c : NextCall h p b r) (i : Input) → StandsAt events far near h p r → c.gave.answer ≡ Wants i
      → notes k h c.gave.place c.gave.buffers (rest_after c.gave.used r) ≡ notes k h p b r
  wants_noted k p b r c i st q =
      sym (note_past k p b r c.gave (subst (Part p b r) (sym c.contract) (wants_part p b r c.hand st c.fair i (ap (λ (x : Next). x.answer) (sym c.contract) ∙ q))))

  pub noted_is : (p : Place) (b : Buffers) (r : Rest) (ts : List Noted) → Streamed h p b r ts → StandsAt events far near h p r → (k : ℕ) → length ts ≤ k → ts ≡ notes k h p b r
  noted_is p b r ts (over p₁ b₁ r₁ c q) st k m = over_noted k p₁ b₁ r₁ c st q
  noted_is p b r ts (says p₁ b₁ r₁ l ts₁ c q later) st k m =
      says_noted k p₁ b₁ r₁ c l ts₁ st q m (λ j n. noted_is c.gave.place c.gave.buffers (rest_after c.gave.used r₁) ts₁ later (call_stands p₁ b₁ r₁ c st) j n)
  noted_is p b r ts (wants p₁ b₁ r₁ i ts₁ c q later) st k m =
      noted_is c.gave.place c.gave.buffers (rest_after c.gave.used r₁) ts₁ later (call_stands p₁ b₁ r₁ c st) k m ∙ wants_noted k p₁ b₁ r₁ c i st q

-- ---- all of it

as_many_lines : (ts : List Noted) → length (lines_of ts) ≡ length ts
as_many_lines [] = refl
as_many_lines (t ∷ ts) = ap suc (as_many_lines ts)

-- What any host notes is `noted_of` of the recording.
pub streamed_noted : (events far near : List ℕ) (h : Header) (lent cleared : Buffers) (s : Session) (ts : List Noted) → opened events ≡ Some h
    → beginning (begun.Ready s) cleared ≡ beginning_of h lent → Streamed h (opens s) cleared (rest (drop (offset_of h.form) events) far near) ts → ts ≡ noted_of h events far near
unfolding noted_of
streamed_noted events far near h lent cleared s ts q ready x =
    let r = rest (drop (offset_of h.form) events) far near in
    let k = length (log_of events far near) in
    let is = ready_is h lent cleared s ready in
    let few : length ts ≤ k = omega (arith, as_many_lines ts, ap length (opened_log events far near h lent cleared s ts q ready x)) in
    noted_is events far near h (opens s) cleared r ts x (ready_stands events far near h lent cleared s q ready) k few
    ∙ ap (λ (s₁ : Session). notes k h (opens s₁) cleared r) is.0
    ∙ ap (λ (b₁ : Buffers). notes k h (opens (new_session h.rate h.ceiling)) b₁ r) is.1
