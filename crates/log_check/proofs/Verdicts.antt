-- Any host's verdict is `checked`.
use Rattle.std.specs.Prelude.{Some, None}
use Prim.Native.Nat.{ℕ, ◌+◌}
use mathlib.Core.Path.{◌≡◌, refl, sym, ap, subst, ◌∙◌}
use mathlib.Core.Bool.{Bool, true, false}
use mathlib.Core.List.{List, [], ◌∷◌, ◌++◌, map}
use lib.ListN.{drop}
use Rattle.scan.specs.State.{Buffers}
use Rattle.log_lines.specs.Lines.{text_of}
use Rattle.log_lines.specs.declared.Line.{Line}
use Rattle.log_lines.specs.declared.Line.TheVariants as line
use Rattle.log_text.specs.Text.{lines_of}
use Rattle.log_text.specs.Apart.{Nothing, There, Apart, Same, first_apart}
use Rattle.log_text.specs.Cut.{Behind}
use Rattle.log_hold.specs.Held.{held}
use Rattle.log_hold.specs.declared.Stands.TheVariants.{Right, Wrong, Over}
use Rattle.recording.specs.declared.Header.{Header}
use Rattle.recording.specs.Recording.{offset_of, opened}
use Rattle.replay.specs.Beginning.{beginning, beginning_of}
use Rattle.replay.specs.Log.{log_of}
use Rattle.replay.specs.declared.Session.{Session}
use Rattle.replay.specs.declared.Begun.TheVariants as begun
use Rattle.replay_stream.specs.Stream.{Piece}
use Rattle.replay_stream.specs.Hosts.{Rest, rest, rest_after, Front, NextCall, Noted, opens, Streamed, Streams}
use Rattle.replay_stream.specs.Hosts as hosts
use Rattle.replay_stream.specs.declared.Place.{Place}
use Rattle.replay_stream.specs.declared.Answer.{Answer}
use Rattle.replay_stream.specs.declared.Answer.TheVariants as answer
use Rattle.replay_stream.proofs.Fronts.{header_handed}
use Rattle.replay_stream.proofs.Plain.{said}
use Rattle.replay_stream.proofs.Standing.{Ends}
use Rattle.replay_stream.proofs.Turning as turning
use Rattle.replay_stream.proofs.Whole.{to_come, streamed_lines, ready_stands, opened_log, streamed_log}
use Rattle.replay_stream.proofs.Patient.{patient_ends}
use Rattle.replay_stream.proofs.Hosted.{all_at_once}
use Rattle.log_check.specs.Checked.{checked}
use Rattle.log_check.specs.Checking.{wrong_at, Holds, Checking, Checks}
use Rattle.log_check.specs.Checking as host
use Rattle.log_check.proofs.Steps.{right_step, wrong_step, extra_step, over_step}

behind : (log : List ℕ) (p : Piece) (f : Front log p) → Behind p.ended f.later
behind log p f = by p.ended refl
  where
    by : (b : Bool) → p.ended ≡ b → Behind b f.later
    by true e = f.last e
    by false e = record {}

-- ---- a line of the log, as a host has its bytes

module _ (log : List ℕ) (p : Piece) (f : Front log p) (k : ℕ) where
  right_here : (l : Line) (ls : List (List ℕ)) (n : ℕ) → held (Some l) p.bytes p.ended ≡ Right n → first_apart k (lines_of log) (text_of l ∷ ls) ≡ first_apart (k + 1) (lines_of (drop n p.bytes ++ f.later)) ls
  right_here l ls n e = ap (λ (z : List ℕ). first_apart k (lines_of z) (text_of l ∷ ls)) f.joins ∙ right_step p.bytes f.later p.ended (behind log p f) k l ls n e

  wrong_here : (l : Line) (ls : List (List ℕ)) → held (Some l) p.bytes p.ended ≡ Wrong → wrong_at k log (There (text_of l)) ≡ first_apart k (lines_of log) (text_of l ∷ ls)
  wrong_here l ls e =
      subst (λ (z : List ℕ). wrong_at k z (There (text_of l)) ≡ first_apart k (lines_of z) (text_of l ∷ ls)) (sym f.joins)
      (sym (wrong_step p.bytes f.later p.ended (behind log p f) k l ls e))

  extra_here : held None p.bytes p.ended ≡ Wrong → wrong_at k log Nothing ≡ first_apart k (lines_of log) []
  extra_here e =
      subst (λ (z : List ℕ). wrong_at k z Nothing ≡ first_apart k (lines_of z) []) (sym f.joins)
      (sym (extra_step p.bytes f.later p.ended (behind log p f) k e))

  over_here : held None p.bytes p.ended ≡ Over → Same ≡ first_apart k (lines_of log) []
  over_here e =
      subst (λ (z : List ℕ). Same ≡ first_apart k (lines_of z) []) (sym f.joins)
      (sym (over_step p.bytes f.later p.ended (behind log p f) k e))

-- ---- against lines that are known

pub holds_apart : (k : ℕ) (ls : List Line) (log : List ℕ) (v : Apart) → Holds k ls log v → v ≡ first_apart k (lines_of log) (map text_of ls)
holds_apart k ls log v (host.right k₁ l ls₁ log₁ v₁ n p f e later) =
    holds_apart (k₁ + 1) ls₁ (drop n p.bytes ++ f.later) v₁ later ∙ sym (right_here log₁ p f k₁ l (map text_of ls₁) n e)
holds_apart k ls log v (host.wrong k₁ l ls₁ log₁ p f e) = wrong_here log₁ p f k₁ l (map text_of ls₁) e
holds_apart k ls log v (host.extra k₁ log₁ p f e) = extra_here log₁ p f k₁ e
holds_apart k ls log v (host.accepted k₁ log₁ p f e) = over_here log₁ p f k₁ e

-- ---- against the lines that the calls tell

module _ (events far near : List ℕ) (h : Header) where
  abbrev lines : Place → Buffers → Rest → List Line
  lines q b r = to_come events far near h q b r

  abbrev StandsAt : Place → Rest → Type 0
  StandsAt q r = turning.StandsAt events far near h q r

  module _ (q : Place) (b : Buffers) (r : Rest) (c : NextCall h q b r) (st : StandsAt q r) where
    call_law : turning.At events far near h q b r c.hand c.gave
    call_law = subst (turning.At events far near h q b r c.hand) (sym c.contract) (turning.next_law events far near h q b r c.hand st c.fair)

    abbrev after : List Line
    after = lines c.gave.place c.gave.buffers (rest_after c.gave.used r)

    answered : (a : Answer) → c.gave.answer ≡ a → said a ++ after ≡ lines q b r
    answered a e = ap (λ (x : Answer). said x ++ after) (sym e) ∙ sym call_law.tells

    over_none : c.gave.answer ≡ answer.Over → [] ≡ lines q b r
    over_none e = sym (subst (λ (x : Answer). Ends x after) e call_law.ends) ∙ answered answer.Over e

  pub checking_apart : (q : Place) (b : Buffers) (r : Rest) (k : ℕ) (log : List ℕ) (v : Apart) → Checking h q b r k log v → StandsAt q r → v ≡ first_apart k (lines_of log) (map text_of (lines q b r))
  checking_apart q b r k log v (host.wants q₁ b₁ r₁ k₁ log₁ v₁ i c e later) st =
      checking_apart c.gave.place c.gave.buffers (rest_after c.gave.used r₁) k₁ log₁ v₁ later (call_law q₁ b₁ r₁ c st).stands
      ∙ ap (λ (ls : List Line). first_apart k₁ (lines_of log₁) (map text_of ls)) (answered q₁ b₁ r₁ c st (answer.Wants i) e)
  checking_apart q b r k log v (host.right q₁ b₁ r₁ k₁ l log₁ v₁ n c p f e right later) st =
      checking_apart c.gave.place c.gave.buffers (rest_after c.gave.used r₁) (k₁ + 1) (drop n p.bytes ++ f.later) v₁ later (call_law q₁ b₁ r₁ c st).stands
      ∙ sym (right_here log₁ p f k₁ l (map text_of (after q₁ b₁ r₁ c st)) n right)
      ∙ ap (λ (ls : List Line). first_apart k₁ (lines_of log₁) (map text_of ls)) (answered q₁ b₁ r₁ c st (answer.Says l) e)
  checking_apart q b r k log v (host.wrong q₁ b₁ r₁ k₁ l log₁ c p f e wrong) st =
      wrong_here log₁ p f k₁ l (map text_of (after q₁ b₁ r₁ c st)) wrong
      ∙ ap (λ (ls : List Line). first_apart k₁ (lines_of log₁) (map text_of ls)) (answered q₁ b₁ r₁ c st (answer.Says l) e)
  checking_apart q b r k log v (host.extra q₁ b₁ r₁ k₁ log₁ c p f e extra) st =
      extra_here log₁ p f k₁ extra ∙ ap (λ (ls : List Line). first_apart k₁ (lines_of log₁) (map text_of ls)) (over_none q₁ b₁ r₁ c st e)
  checking_apart q b r k log v (host.accepted q₁ b₁ r₁ k₁ log₁ c p f e over) st =
      over_here log₁ p f k₁ over ∙ ap (λ (ls : List Line). first_apart k₁ (lines_of log₁) (map text_of ls)) (over_none q₁ b₁ r₁ c st e)

-- what is to come at the start is the log
start_log : (events far near : List ℕ) (h : Header) (lent cleared : Buffers) (s : Session) → opened events ≡ Some h → beginning (begun.Ready s) cleared ≡ beginning_of h lent
    → to_come events far near h (opens s) cleared (rest (drop (offset_of h.form) events) far near) ≡ log_of events far near
start_log events far near h lent cleared s q ready =
    let r = rest (drop (offset_of h.form) events) far near in
    let st = ready_stands events far near h lent cleared s q ready in
    let end = patient_ends events far near h all_at_once (opens s) cleared r st in
    sym (streamed_lines events far near h (opens s) cleared r end.0 end.1 st) ∙ opened_log events far near h lent cleared s end.0 q ready end.1

-- whatever a host holds at each step, what it ends in is `checked`
pub checked_is : (events far near log : List ℕ) (v : Apart) → Checks events far near log v → v ≡ checked events far near log
unfolding checked
checked_is events far near log v (host.unopened v₁ first f w q holds) =
    holds_apart 1 (line.BadHeader ∷ []) log v₁ holds
    ∙ ap (λ (ls : List Line). first_apart 1 (lines_of log) (map text_of ls)) (streamed_log events far near (line.BadHeader ∷ []) (hosts.unopened first f w q))
checked_is events far near log v (host.checks v₁ first h lent cleared s f w q ready checking) =
    let q₁ = header_handed events first f w ∙ q in
    checking_apart events far near h (opens s) cleared (rest (drop (offset_of h.form) events) far near) 1 log v₁ checking (ready_stands events far near h lent cleared s q₁ ready)
    ∙ ap (λ (ls : List Line). first_apart 1 (lines_of log) (map text_of ls)) (start_log events far near h lent cleared s q₁ ready)
