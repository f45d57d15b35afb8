-- What a host gets by streaming is the log of the recording, for every recording, however its bytes come in.
use Rattle.std.specs.Prelude.{Some}
use Prim.Native.Nat.{ℕ, ◌+◌, ◌-◌, ◌*◌, ◌≤◌}
use mathlib.Core.Path.{◌≡◌, refl, sym, ap, ◌∙◌, subst}
use mathlib.Core.List.{List, ◌∷◌, ◌++◌}
use native.Mathlib.Omega.{arith}
use lib.ListN.{length, drop}
use Rattle.scan.specs.Bins.{geometry_of}
use Rattle.scan.specs.State.{Buffers}
use Rattle.log_lines.specs.declared.Line.{Line}
use Rattle.log_lines.specs.declared.Line.TheVariants as line
use Rattle.recording.specs.Recording.{offset_of, opened}
use Rattle.recording.specs.Samples.{bytes_of}
use Rattle.recording.specs.declared.Header.{Header}
use Rattle.replay.specs.Log.{inputs, lines_from, started, log_of, new_session, clear_buffers}
use Rattle.recording.proofs.Forms.{opened_whole}
use Rattle.replay.specs.Beginning.{beginning, beginning_of}
use Rattle.replay.specs.declared.Session.{Session}
use Rattle.replay.specs.declared.Begun.TheVariants as begun
use Rattle.replay.proofs.Ready.{ready_is}
use Rattle.replay_stream.specs.Stream.{Opening, Place, Answer, Says, Wants, Over}
use Rattle.replay_stream.specs.Hosts.{Rest, rest, rest_after, NextCall, Noted, lines_of, Streamed, over, says, wants, opens, Streams, unopened, streams}
use Rattle.replay_stream.proofs.Fronts.{header_handed}
use Rattle.replay_stream.proofs.Plain.{said}
use Rattle.replay_stream.proofs.Standing.{ahead, Stands, Ends}
use Rattle.replay_stream.proofs.Turning.{At, StandsAt, next_law}

-- ---- call behind call

module _ (events far near : List ℕ) (h : Header) where
  -- what is ahead at a place
  abbrev pub to_come : Place → Buffers → Rest → List Line
  to_come p b r = ahead (inputs h.form events far near) h r.near p.number p.stage p.session b

  call_law : (p : Place) (b : Buffers) (r : Rest) (c : NextCall h p b r) → StandsAt events far near h p r → At events far near h p b r c.hand c.gave
  call_law p b r c st = subst (At events far near h p b r c.hand) (sym c.contract) (next_law events far near h p b r c.hand st c.fair)

  -- a call that answered so: this line, or none, and then what is ahead behind it
  answered : (p : Place) (b : Buffers) (r : Rest) (c : NextCall h p b r) (a : Answer) → StandsAt events far near h p r → c.gave.answer ≡ a
      → said a ++ to_come c.gave.place c.gave.buffers (rest_after c.gave.used r) ≡ to_come p b r
  answered p b r c a st q = ap (λ (x : Answer). said x ++ to_come c.gave.place c.gave.buffers (rest_after c.gave.used r)) (sym q) ∙ sym (call_law p b r c st).tells

  pub streamed_lines : (p : Place) (b : Buffers) (r : Rest) (ts : List Noted) → Streamed h p b r ts → StandsAt events far near h p r → lines_of ts ≡ to_come p b r
  streamed_lines p b r ts (over p₁ b₁ r₁ c q) st =
      sym (subst (λ (x : Answer). Ends x (to_come c.gave.place c.gave.buffers (rest_after c.gave.used r₁))) q (call_law p₁ b₁ r₁ c st).ends)
      ∙ answered p₁ b₁ r₁ c Over st q
  streamed_lines p b r ts (says p₁ b₁ r₁ l ts₁ c q later) st =
      ap (λ (x : List Line). l ∷ x) (streamed_lines c.gave.place c.gave.buffers (rest_after c.gave.used r₁) ts₁ later (call_law p₁ b₁ r₁ c st).stands)
      ∙ answered p₁ b₁ r₁ c (Says l) st q
  streamed_lines p b r ts (wants p₁ b₁ r₁ i ts₁ c q later) st =
      streamed_lines c.gave.place c.gave.buffers (rest_after c.gave.used r₁) ts₁ later (call_law p₁ b₁ r₁ c st).stands
      ∙ answered p₁ b₁ r₁ c (Wants i) st q

-- ---- the start

-- behind the header nothing is used
pub start_stands : (events far near : List ℕ) (h : Header) → offset_of h.form ≤ length events
    → Stands h.form events far near 0 Opening (new_session h.rate h.ceiling).used (rest (drop (offset_of h.form) events) far near)
unfolding new_session
start_stands events far near h m =
    let first : offset_of h.form + 16 * 0 ≡ offset_of h.form = omega arith in
    let none : bytes_of h.form 0 ≡ 0 = omega arith in
    record {
      entries = record { at = ap (λ (k : ℕ). drop k events) first; most = omega (arith, m) };
      fars = record { at = ap (λ (k : ℕ). drop k far) none; most = omega (arith, none) };
      passed = 0;
      nears = record { at = refl; most = omega arith };
      partly = omega arith;
      there = omega (arith, none);
      few = omega arith;
    }

pub ready_stands : (events far near : List ℕ) (h : Header) (lent cleared : Buffers) (s : Session) → opened events ≡ Some h → beginning (begun.Ready s) cleared ≡ beginning_of h lent
    → StandsAt events far near h (opens s) (rest (drop (offset_of h.form) events) far near)
ready_stands events far near h lent cleared s q ready = rw (ready_is h lent cleared s ready).0 (start_stands events far near h (opened_whole events h q))

-- ---- all of it

-- what is streamed behind a good header is the log
pub opened_log : (events far near : List ℕ) (h : Header) (lent cleared : Buffers) (s : Session) (ts : List Noted) → opened events ≡ Some h
    → beginning (begun.Ready s) cleared ≡ beginning_of h lent → Streamed h (opens s) cleared (rest (drop (offset_of h.form) events) far near) ts → lines_of ts ≡ log_of events far near
unfolding log_of
opened_log events far near h lent cleared s ts q ready x =
    let i = inputs h.form events far near in
    let is = ready_is h lent cleared s ready in
    let new = new_session h.rate h.ceiling in
    let clear = clear_buffers (geometry_of h.rate h.ceiling) in
    let all-events : h.events - 0 ≡ h.events = omega arith in
    streamed_lines events far near h (opens s) cleared (rest (drop (offset_of h.form) events) far near) ts x (ready_stands events far near h lent cleared s q ready)
    ∙ ap (λ (s₁ : Session). ahead i h near 0 Opening s₁ cleared) is.0
    ∙ ap (λ (b₁ : Buffers). ahead i h near 0 Opening new b₁) is.1
    ∙ ap (λ (left : ℕ). line.Replay h.rate h.ceiling ∷ lines_from i h left 0 new clear) all-events
    ∙ ap (started events far near) (sym q)

-- What the host gets is the log.
pub streamed_log : (events far near : List ℕ) (ls : List Line) → Streams events far near ls → ls ≡ log_of events far near
unfolding log_of
streamed_log events far near ls (unopened first f w q) = ap (started events far near) (sym (header_handed events first f w ∙ q))
streamed_log events far near ls (streams first h lent cleared s ts f w q ready later) = opened_log events far near h lent cleared s ts (header_handed events first f w ∙ q) ready later
