-- The lines that the loop is told are the log of the bytes that it read.
use Rattle.std.specs.Prelude.{Some}
use Prim.Native.Nat.{ℕ}
use mathlib.Core.Path.{◌≡◌, refl, sym, ap, subst, ◌∙◌}
use mathlib.Core.Bool.{true, false, true≢false, false≢true}
use mathlib.Core.List.{List, [], ◌∷◌, ◌++◌, append_assoc}
use lib.ListN.{drop}
use Rattle.scan.specs.State.{Buffers}
use Rattle.log_lines.specs.declared.Line.{Line}
use Rattle.recording.specs.Recording.{offset_of, opened, header_length}
use Rattle.recording.specs.declared.Header.{Header}
use Rattle.replay.specs.Beginning.{beginning, beginning_of}
use Rattle.replay.specs.Log.{log_of}
use Rattle.replay.specs.declared.Session.{Session}
use Rattle.replay.specs.declared.Begun.TheVariants as begun
use Rattle.replay_stream.specs.Stream.{Piece, short}
use Rattle.replay_stream.specs.Hosts.{Rest, rest, rest_after, Front, NextCall, Noted, noted, opens, Streamed, Streams}
use Rattle.replay_stream.specs.Hosts as hosts
use Rattle.replay_stream.specs.declared.Place.{Place}
use Rattle.replay_stream.specs.declared.Answer.{Answer}
use Rattle.replay_stream.specs.declared.Answer.TheVariants.{Says, Silent, Wants, Over}
use Rattle.replay_stream.proofs.Fronts.{header_handed}
use Rattle.replay_stream.proofs.Silence.{never_silent}
use Rattle.replay_stream.proofs.Whole.{ready_stands, streamed_log}
use Rattle.replay_inputs.specs.Inputs.{hand_at}
use Rattle.replay_step.specs.Step.{Turn, is_over}
use Rattle.replay_step.specs.declared.Stream.{Stream}
use Rattle.replay_loop.specs.Turns.{behind, came_by, said_by, Turns, none, more}
use Rattle.replay_loop.specs.Reads.{rest_at, Fairly}
use Rattle.replay_loop.proofs.Hosting.{rest_before, fair_before, call, unused_is, behind_behind, StandsFrom, stands_behind, stands_on}
use Rattle.replay_stream.proofs.Turning as turning

-- lines that are streamed from a place, the first of them being these
abbrev Told : Header → Place → Buffers → Rest → List Line → Type 0
Told h p b r ls = (ts : List Noted) × (Streamed h p b r ts) × (hosts.lines_of ts ≡ ls)

module _ (events far near : List ℕ) where
  module _ {h : Header} {s s' : Stream} {b b' : Buffers} {e f n room e' f' n' room' : List ℕ} (one : Turn h s b e f n room s' b' e' f' n' room') (l : Rest) (fair : Fairly s'.inputs l)
      (st : turning.StandsAt events far near h s.place (rest_before one l fair)) where
    -- the same from where the call left it
    handed : (ls : List Line) → Told h s'.place b' (rest_at s'.inputs e' f' n' l) ls → Told h one.gave.place b' (rest_after one.gave.used (rest_before one l fair)) ls
    handed ls t =
        subst (λ (r : Rest). Told h one.gave.place b' r ls) (sym (unused_is one l fair events far near st))
        (subst (λ (p : Place). Told h p b' (rest_at s'.inputs e' f' n' l) ls) one.heeded.place t)

    turn_tells : (ls : List Line) (a : Answer) → one.gave.answer ≡ a → is_over a ≡ false → Told h s'.place b' (rest_at s'.inputs e' f' n' l) ls → Told h s.place b (rest_before one l fair) (said_by a ++ ls)
    turn_tells ls (Says k) is o t =
        let later = handed ls t in
        (noted k one.gave.place.session ∷ later.0, hosts.says s.place b (rest_before one l fair) k later.0 (call one l fair) is later.1, ap (λ (m : List Line). k ∷ m) later.2)
    turn_tells ls Silent is o t = absurd (never_silent h s.place b (hand_at s.inputs e f n) (sym (ap (λ x. x.answer) one.asked) ∙ is))
    turn_tells ls (Wants i) is o t =
        let later = handed ls t in
        (later.0, hosts.wants s.place b (rest_before one l fair) i later.0 (call one l fair) is later.1, later.2)
    turn_tells ls Over is o t = absurd (true≢false o)

    over_tells : (a : Answer) → one.gave.answer ≡ a → is_over a ≡ true → Told h s.place b (rest_before one l fair) (said_by a)
    over_tells (Says k) is o = absurd (false≢true o)
    over_tells Silent is o = absurd (false≢true o)
    over_tells (Wants i) is o = absurd (false≢true o)
    over_tells Over is o = ([], hosts.over s.place b (rest_before one l fair) (call one l fair) is, refl)

  abbrev From : Header → Stream → Buffers → List ℕ → List ℕ → List ℕ → Rest → List Line → Type 0
  From h s b e f n l ls = Told h s.place b (rest_at s.inputs e f n l) ls

  from_behind : (h : Header) (s : Stream) (b : Buffers) (e f n : List ℕ) (x y l : Rest) (ls : List Line) → From h s b e f n (behind x (behind y l)) ls → From h s b e f n (behind (behind x y) l) ls
  from_behind h s b e f n x y l ls t = subst (λ (r : Rest). From h s b e f n r ls) (sym (behind_behind x y l)) t

  -- what is told from the last turn on is told behind the lines before it
  tells_on : {h : Header} {s : Stream} {b : Buffers} {e f n room : List ℕ} {x : Rest} {y : List ℕ} {ls : List Line} {u : Stream} {d : Buffers} {e' f' n' room' : List ℕ} → Turns h s b e f n room x y ls u d e' f' n' room'
      → (l : Rest) → Fairly u.inputs l → StandsFrom events far near h s e f n (behind x l) → u.over ≡ false → (ks : List Line) → Told h u.place d (rest_at u.inputs e' f' n' l) ks → From h s b e f n (behind x l) (ls ++ ks)
  tells_on none l fair st o ks t = t
  tells_on {h = h} {s = s} {b = b} {e = e} {f = f} {n = n} (more {x = x} {ls = ls} before over right one) l fair st o ks t =
      let a = one.gave.answer in
      let st' = stands_behind events far near h s e f n x (came_by one) l st in
      let at = stands_on events far near before (behind (came_by one) l) (fair_before one l fair) st' in
      let said = turn_tells one l fair at ks a refl (sym one.heeded.over ∙ o) t in
      from_behind h s b e f n x (came_by one) l ((ls ++ said_by a) ++ ks)
      (subst (From h s b e f n (behind x (behind (came_by one) l))) (sym (append_assoc ls (said_by a) ks))
      (tells_on before (behind (came_by one) l) (fair_before one l fair) st' over (said_by a ++ ks) said))

  loop_tells : {h : Header} {s : Stream} {b : Buffers} {e f n room : List ℕ} {x : Rest} {y : List ℕ} {ls : List Line} {u : Stream} {d : Buffers} {e' f' n' room' : List ℕ} → Turns h s b e f n room x y ls u d e' f' n' room'
      → (l : Rest) → Fairly u.inputs l → StandsFrom events far near h s e f n (behind x l) → s.over ≡ false → u.over ≡ true → From h s b e f n (behind x l) ls
  loop_tells none l fair st o v = absurd (true≢false (sym v ∙ o))
  loop_tells {h = h} {s = s} {b = b} {e = e} {f = f} {n = n} (more {x = x} {ls = ls} before over right one) l fair st o v =
      let a = one.gave.answer in
      let st' = stands_behind events far near h s e f n x (came_by one) l st in
      let at = stands_on events far near before (behind (came_by one) l) (fair_before one l fair) st' in
      let said = over_tells one l fair at a refl (sym one.heeded.over ∙ v) in
      from_behind h s b e f n x (came_by one) l (ls ++ said_by a) (tells_on before (behind (came_by one) l) (fair_before one l fair) st' over (said_by a) said)

-- A loop that has begun as a host begins, and has come to the end of the log, was told the log of the recording: of the bytes at hand at first, those that came, and those that were left unread.
pub log_told : (events far near : List ℕ) {h : Header} {s u : Stream} {cleared d : Buffers} {e f n room e' f' n' room' : List ℕ} {x : Rest} {y : List ℕ} {ls : List Line} (first : Piece) (lent : Buffers) (session : Session) (l : Rest)
    → Front events first → short (header_length first.bytes) first ≡ false → opened first.bytes ≡ Some h → beginning (begun.Ready session) cleared ≡ beginning_of h lent → s.place ≡ opens session → s.over ≡ false
    → Turns h s cleared e f n room x y ls u d e' f' n' room' → Fairly u.inputs l → rest_at s.inputs e f n (behind x l) ≡ rest (drop (offset_of h.form) events) far near → u.over ≡ true → ls ≡ log_of events far near
log_told events far near {h = h} {s = s} {cleared = cleared} {e = e} {f = f} {n = n} {x = x} {ls = ls} first lent session l front enough header ready place starts turns fair whole ends =
    let q = header_handed events first front enough ∙ header in
    let st = ready_stands events far near h lent cleared session q ready in
    let here = subst (λ (p : Place). turning.StandsAt events far near h p (rest_at s.inputs e f n (behind x l))) (sym place) (subst (turning.StandsAt events far near h (opens session)) (sym whole) st) in
    let told = loop_tells events far near turns l fair here starts ends in
    let streamed = subst (λ (p : Place). Streamed h p cleared (rest (drop (offset_of h.form) events) far near) told.0) place (subst (λ (r : Rest). Streamed h s.place cleared r told.0) whole told.1) in
    sym told.2 ∙ streamed_log events far near (hosts.lines_of told.0) (hosts.streams first h lent cleared session told.0 front enough header ready streamed)
