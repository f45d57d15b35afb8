-- The verdict of the loop on a log is `checked` of the bytes that it read.
use Rattle.std.specs.Prelude.{Some, Option, None}
use Prim.Native.Nat.{ℕ, ◌+◌, ◌-◌, ◌^◌, ◌≤◌, ◌<◌}
use native.Mathlib.Omega.{arith}
use mathlib.Core.Path.{◌≡◌, refl, sym, ap, subst, ◌∙◌}
use mathlib.Core.Bool.{Bool, true, false, true≢false, false≢true}
use mathlib.Core.Logic.{inl, inr}
use mathlib.Core.List.{List, [], ◌∷◌, ◌++◌, append_assoc}
use lib.Dec.{eqb}
use lib.ListN.{length, drop}
use borrow.Author.Tests.{eqb-true, eq-eqb}
use Rattle.answers.specs.Numbers.{next_long_count}
use Rattle.answers.specs.Pick.{pick_case}
use Rattle.scan.specs.State.{Buffers}
use Rattle.pipes.specs.Window.{at_hand, over}
use Rattle.pipes.specs.declared.window.Window.{Window}
use Rattle.log_lines.specs.Lines.{text_of}
use Rattle.log_lines.specs.declared.Line.{Line}
use Rattle.log_text.specs.Text.{same_text}
use Rattle.log_text.specs.Apart.{Apart, Same}
use Rattle.log_text.specs.declared.Piece.TheVariants as cut
use Rattle.log_text.specs.declared.Piece as cuts
use Rattle.log_text.specs.Cut.{cut_of}
use Rattle.log_hold.specs.Held.{standing, held}
use Rattle.log_hold.specs.Reading.{Sought, After}
use Rattle.log_hold.specs.declared.Check.{Check}
use Rattle.log_hold.specs.declared.Stands.{Stands}
use Rattle.log_hold.specs.declared.Stands.TheVariants as stands
use Rattle.log_hold.specs.declared.Verdict.{Verdict}
use Rattle.log_hold.specs.declared.Verdict.TheVariants as verdict
use Rattle.log_says.specs.Calls.{due_side}
use Rattle.log_check.specs.Checked.{checked}
use Rattle.log_check.specs.Checking.{wrong_at, Checking}
use Rattle.log_check.specs.Checking as host
use Rattle.log_check.proofs.Verdicts.{checked_is}
use Rattle.recording.specs.Recording.{offset_of, opened, header_length}
use Rattle.recording.specs.declared.Header.{Header}
use Rattle.replay.specs.Beginning.{beginning, beginning_of}
use Rattle.replay.specs.declared.Session.{Session}
use Rattle.replay.specs.declared.Begun.TheVariants as begun
use Rattle.replay_stream.specs.Stream.{Piece, short}
use Rattle.replay_stream.specs.Giving.{piece}
use Rattle.replay_stream.specs.Hosts.{Rest, rest, rest_after, Front, opens}
use Rattle.replay_stream.specs.declared.Place.{Place}
use Rattle.replay_stream.specs.declared.Answer.{Answer}
use Rattle.replay_stream.specs.declared.Answer.TheVariants.{Says, Silent, Wants, Over}
use Rattle.replay_stream.proofs.Fronts.{header_handed}
use Rattle.replay_stream.proofs.Silence.{never_silent}
use Rattle.replay_stream.proofs.Turning as turning
use Rattle.replay_stream.proofs.Whole.{ready_stands}
use Rattle.replay_inputs.specs.Inputs.{hand_at}
use Rattle.replay_sink.specs.Sink.{HeardOf, Open, Closed, Finished}
use Rattle.replay_sink.specs.declared.Sink.{Sink}
use Rattle.replay_sink.specs.declared.Sink.TheVariants.{Writes, Checks}
use Rattle.replay_step.specs.Step.{Turn, is_over}
use Rattle.replay_step.specs.declared.Stream.{Stream}
use Rattle.replay_loop.specs.Turns.{behind, came_by, log_by, closed_by, end_by, Turns, none, more}
use Rattle.replay_loop.specs.Reads.{rest_at, Fairly, IsCheck, log_at, line_at, FairLog, Found}
use Rattle.replay_loop.proofs.Hosting.{rest_before, fair_before, call, unused_is, behind_behind, StandsFrom, stands_behind, stands_on}

-- two constructors are never equal: `cc` proves this of them
clash : {A : Type 0} → ◌≡◌ {A = ℕ} 0 1 → A
clash z = absurd (omega (arith, z))

-- ---- one line of the log, as it was read

module _ (c c' : Check) (d : Option Line) (room room' z : List ℕ) (w : Window) (s : Stands) (sought : Sought d c.log room w room' s) where
  abbrev piece_at : Piece
  piece_at = piece (at_hand w room') (over w)

  abbrev log_before : List ℕ
  log_before = at_hand c.log room ++ (sought.more ++ z)

  joins : log_before ≡ at_hand w room' ++ z
  joins = sym (append_assoc (at_hand c.log room) sought.more z) ∙ ap (λ (l : List ℕ). l ++ z) (sym sought.joins)

  abbrev front : (over w ≡ true → z ≡ []) → Front log_before piece_at
  front last = record { later = z; joins = joins; last = last }

  -- where nothing more may be read behind, nothing was left before
  ended : (k : ℕ) → k ≤ w.left → (eqb k 0 ≡ true → z ≡ []) → over w ≡ true → z ≡ []
  ended k less last e = last (eq-eqb k 0 (omega (arith, less, eqb-true w.left 0 e)))

  fair_sought : (over w ≡ true → z ≡ []) → over c.log ≡ true → sought.more ++ z ≡ []
  fair_sought last e =
      let none : length sought.more ≡ 0 = omega (arith, sought.counts, eqb-true c.log.left 0 e) in
      let left : w.left ≡ 0 = omega (arith, sought.counts, eqb-true c.log.left 0 e) in
      empty_more sought.more none (last (eq-eqb w.left 0 left))
    where
      empty_more : (m : List ℕ) → length m ≡ 0 → z ≡ [] → m ++ z ≡ []
      empty_more [] h e = e
      empty_more (x ∷ m) h e = absurd (omega (arith, h))

abbrev top : ℕ
top = 2 ^ 64 - 1

-- a line counts on while its number is below the last
counts_on : (k n : ℕ) → n ≡ next_long_count k → n < top → n ≡ k + 1
counts_on k n e h = omega (arith, e, h)

nothing_right : (hand : List ℕ) (p : cuts.Piece) (n : ℕ) → standing None hand p ≡ stands.Right n → ⊥
nothing_right hand (cut.Line m) n e = clash (cc)
nothing_right hand (cut.Last m) n e = clash (cc)
nothing_right hand cut.Long n e = clash (cc)
nothing_right hand cut.Wants n e = clash (cc)
nothing_right hand cut.Over n e = clash (cc)

never_right : (hand : List ℕ) (b : Bool) (n : ℕ) → held None hand b ≡ stands.Right n → ⊥
unfolding held
never_right hand b n e = nothing_right hand (cut_of hand b) n e

line_over : (l : Line) (hand : List ℕ) (p : cuts.Piece) → standing (Some l) hand p ≡ stands.Over → ⊥
line_over l hand (cut.Line m) e = pick_case (λ (s : Stands). s ≡ stands.Over → ⊥) (same_text _ (text_of l)) _ _ (λ t e. clash (cc)) (λ t e. clash (cc)) e
line_over l hand (cut.Last m) e = pick_case (λ (s : Stands). s ≡ stands.Over → ⊥) (same_text _ (text_of l)) _ _ (λ t e. clash (cc)) (λ t e. clash (cc)) e
line_over l hand cut.Long e = clash (cc)
line_over l hand cut.Wants e = clash (cc)
line_over l hand cut.Over e = clash (cc)

never_over : (l : Line) (hand : List ℕ) (b : Bool) → held (Some l) hand b ≡ stands.Over → ⊥
unfolding held
never_over l hand b e = line_over l hand (cut_of hand b) e

-- nothing is found while the log is still held against its lines
going_none : {A : Type 0} (x : Verdict) (k : ℕ) (log : List ℕ) (v : Apart) → x ≡ verdict.Going → Found x k log v → A
going_none x k log v e f = absurd (subst (λ (y : Verdict). Found y k log v) e f)

-- ---- one turn that is not the last

module _ (events far near : List ℕ) {h : Header} {s s' : Stream} {b b' : Buffers} {e f n room e' f' n' room' : List ℕ} (one : Turn h s b e f n room s' b' e' f' n' room') (l : Rest) (fair : Fairly s'.inputs l)
    (st : turning.StandsAt events far near h s.place (rest_before one l fair)) (z : List ℕ) (v : Apart) where
  abbrev After' : ℕ → List ℕ → Type 0
  After' k log = Checking h s'.place b' (rest_at s'.inputs e' f' n' l) k log v

  abbrev Before : ℕ → List ℕ → Type 0
  Before k log = Checking h s.place b (rest_before one l fair) k log v

  -- the same from where the call left it
  handed : (k : ℕ) (log : List ℕ) → After' k log → Checking h one.gave.place b' (rest_after one.gave.used (rest_before one l fair)) k log v
  handed k log t =
      subst (λ (r : Rest). Checking h one.gave.place b' r k log v) (sym (unused_is one l fair events far near st))
      (subst (λ (p : Place). Checking h p b' (rest_at s'.inputs e' f' n' l) k log v) one.heeded.place t)

  -- what is known before a turn
  abbrev Known : Sink → List ℕ → List ℕ → Type 0
  Known k r later = (IsCheck k) × (FairLog k later) × (line_at k < top) × (Before (line_at k) (log_at k r later))

  module _ (k : Line) (c c' : Check) (is : one.gave.answer ≡ Says k) where
    right_by : (w : Window) (x : Stands) (sought : Sought (Some k) c.log room w room' x) → After x c (Some k) w room' c' → c'.verdict ≡ verdict.Going → (over c'.log ≡ true → z ≡ []) → c'.line < top
        → After' c'.line (at_hand c'.log room' ++ z) → Known (Checks c) room (sought.more ++ z)
    right_by w (stands.Right m) sought a going last less t =
        let next = counts_on c.line c'.line a.3 less in
        let ended-too = ended c c' (Some k) room room' z w (stands.Right m) sought c'.log.left a.2 last in
        let later = subst (λ (j : ℕ). After' j (drop m (at_hand w room') ++ z)) next (subst (λ (t : List ℕ). After' c'.line (t ++ z)) a.1 t) in (
          record {},
          fair_sought c c' (Some k) room room' z w (stands.Right m) sought ended-too,
          omega (arith, next, less),
          host.right s.place b (rest_before one l fair) c.line k _ v m (call one l fair) (piece_at c c' (Some k) room room' z w (stands.Right m) sought)
              (front c c' (Some k) room room' z w (stands.Right m) sought ended-too) is (sym sought.stands) (handed (c.line + 1) (drop m (at_hand w room') ++ z) later),
        )
    right_by w stands.Wrong sought a going last less t = let no : verdict.Wrong (Some k) ≡ verdict.Going = sym a.2 ∙ going in clash (cc)
    right_by w stands.Wants sought a going last less t = absurd a
    right_by w stands.Over sought a going last less t = let no : verdict.Accepted ≡ verdict.Going = sym a.2 ∙ going in clash (cc)

  turn_checks : (a : Answer) (sv su : Sink) (heard : HeardOf a sv room su room') → one.gave.answer ≡ a → is_over a ≡ false → IsCheck su → Open su → FairLog su z → line_at su < top
      → After' (line_at su) (log_at su room' z) → Known sv room (log_by a sv room su room' heard ++ z)
  turn_checks (Says k) (Checks c) (Checks c') heard is o ic open' last less t = right_by k c c' is heard.window heard.stands heard.sought heard.after open' last less t
  turn_checks (Says k) (Checks c) (Writes t') heard is o ic open' last less t = absurd heard
  turn_checks (Says k) (Writes t) (Checks c') heard is o ic open' last less t' = absurd heard
  turn_checks (Says k) (Writes t) (Writes t'') heard is o ic open' last less t' = absurd ic
  turn_checks Silent sv su heard is o ic open' last less t = absurd (never_silent h s.place b (hand_at s.inputs e f n) (sym (ap (λ x. x.answer) one.asked) ∙ is))
  turn_checks (Wants i) sv su heard is o ic open' last less t =
      let same = heard.0 in
      let t₁ = subst (λ (r : List ℕ). After' (line_at sv) (log_at sv r z)) heard.1 (subst (λ (k : Sink). After' (line_at k) (log_at k room' z)) same t) in (
        subst IsCheck same ic,
        subst (λ (k : Sink). FairLog k z) same last,
        subst (λ (k : Sink). line_at k < top) same less,
        host.wants s.place b (rest_before one l fair) (line_at sv) (log_at sv room z) v i (call one l fair) is (handed (line_at sv) (log_at sv room z) t₁),
      )
  turn_checks Over sv su heard is o ic open' last less t = absurd (true≢false o)

  -- ---- the last turn

  module _ (c'' : Check) (room'' : List ℕ) (last : over c''.log ≡ true → z ≡ []) (less : c''.line < top) (found : Found c''.verdict c''.line (at_hand c''.log room'' ++ z) v) where
    named : (d : Option Line) (k : ℕ) (log : List ℕ) → c''.verdict ≡ verdict.Wrong d → c''.line ≡ k → at_hand c''.log room'' ++ z ≡ log → v ≡ wrong_at k log (due_side d)
    named d k log e line is = subst (λ (x : Verdict). Found x c''.line (at_hand c''.log room'' ++ z) v) e found ∙ ap (λ (j : ℕ). wrong_at j (at_hand c''.log room'' ++ z) (due_side d)) line ∙ ap (λ (m : List ℕ). wrong_at k m (due_side d)) is

    -- a line that should stand there does not
    wrong_by : (k : Line) (c c' : Check) → one.gave.answer ≡ Says k → c'' ≡ c' → room'' ≡ room' → (w : Window) (x : Stands) (sought : Sought (Some k) c.log room w room' x) → After x c (Some k) w room' c'
        → Known (Checks c) room (sought.more ++ z)
    wrong_by k c c' is same rooms w (stands.Right m) sought a = going_none c''.verdict c''.line (at_hand c''.log room'' ++ z) v (ap (λ (x : Check). x.verdict) same ∙ a.4) found
    wrong_by k c c' is same rooms w stands.Wrong sought a =
        let log : c''.log ≡ w = ap (λ (x : Check). x.log) same ∙ a.0 in
        let line : c''.line ≡ c.line = ap (λ (x : Check). x.line) same ∙ a.1 in
        let ended-too : over w ≡ true → z ≡ [] = subst (λ (x : Window). over x ≡ true → z ≡ []) log last in
        let stands-there : at_hand c''.log room'' ++ z ≡ log_before c c' (Some k) room room' z w stands.Wrong sought =
        ap (λ (x : Window). at_hand x room'' ++ z) log ∙ ap (λ (r : List ℕ). at_hand w r ++ z) rooms ∙ sym (joins c c' (Some k) room room' z w stands.Wrong sought) in (
          record {},
          fair_sought c c' (Some k) room room' z w stands.Wrong sought ended-too,
          subst (λ (j : ℕ). j < top) line less,
          subst (Checking h s.place b (rest_before one l fair) c.line (log_before c c' (Some k) room room' z w stands.Wrong sought))
              (sym (named (Some k) c.line _ (ap (λ (x : Check). x.verdict) same ∙ a.2) line stands-there))
              (host.wrong s.place b (rest_before one l fair) c.line k _ (call one l fair) (piece_at c c' (Some k) room room' z w stands.Wrong sought)
              (front c c' (Some k) room room' z w stands.Wrong sought ended-too) is (sym sought.stands)),
        )
    wrong_by k c c' is same rooms w stands.Wants sought a = absurd a
    wrong_by k c c' is same rooms w stands.Over sought a = absurd (never_over k (at_hand w room') (over w) (sym sought.stands))

    -- nothing should stand there any more
    over_by : (c : Check) → one.gave.answer ≡ Over → (w : Window) (x : Stands) (sought : Sought None c.log room w room'' x) → After x c None w room'' c'' → Known (Checks c) room (sought.more ++ z)
    over_by c is w (stands.Right m) sought a = absurd (never_right (at_hand w room'') (over w) m (sym sought.stands))
    over_by c is w stands.Wrong sought a =
        let ended-too : over w ≡ true → z ≡ [] = subst (λ (x : Window). over x ≡ true → z ≡ []) a.0 last in
        let stands-there : at_hand c''.log room'' ++ z ≡ log_before c c'' None room room'' z w stands.Wrong sought =
        ap (λ (x : Window). at_hand x room'' ++ z) a.0 ∙ sym (joins c c'' None room room'' z w stands.Wrong sought) in (
          record {},
          fair_sought c c'' None room room'' z w stands.Wrong sought ended-too,
          subst (λ (j : ℕ). j < top) a.1 less,
          subst (Checking h s.place b (rest_before one l fair) c.line (log_before c c'' None room room'' z w stands.Wrong sought))
              (sym (named None c.line _ a.2 a.1 stands-there))
              (host.extra s.place b (rest_before one l fair) c.line _ (call one l fair) (piece_at c c'' None room room'' z w stands.Wrong sought)
              (front c c'' None room room'' z w stands.Wrong sought ended-too) is (sym sought.stands)),
        )
    over_by c is w stands.Wants sought a = absurd a
    over_by c is w stands.Over sought a =
        let ended-too : over w ≡ true → z ≡ [] = subst (λ (x : Window). over x ≡ true → z ≡ []) a.0 last in
        let accepted : v ≡ Same = subst (λ (x : Verdict). Found x c''.line (at_hand c''.log room'' ++ z) v) a.2 found in (
          record {},
          fair_sought c c'' None room room'' z w stands.Over sought ended-too,
          subst (λ (j : ℕ). j < top) a.1 less,
          subst (Checking h s.place b (rest_before one l fair) c.line (log_before c c'' None room room'' z w stands.Over sought)) (sym accepted)
              (host.accepted s.place b (rest_before one l fair) c.line _ (call one l fair) (piece_at c c'' None room room'' z w stands.Over sought)
              (front c c'' None room room'' z w stands.Over sought ended-too) is (sym sought.stands)),
        )

    going_still : {A : Type 0} (c : Check) → c.verdict ≡ verdict.Going → c'' ≡ c → A
    going_still c going same = going_none c''.verdict c''.line (at_hand c''.log room'' ++ z) v (ap (λ (x : Check). x.verdict) same ∙ going) found

    over_checks : (c : Check) → one.gave.answer ≡ Over → c.verdict ≡ verdict.Going → (closed : Closed c room c'' room'') → Known (Checks c) room (closed_by c room c'' room'' closed ++ z)
    over_checks c is going (inl p) = over_by c is p.1.window p.1.stands p.1.sought p.1.after
    over_checks c is going (inr p) = going_still c going p.0

    over_last : (sv : Sink) (r : List ℕ) (c : Check) → one.gave.answer ≡ Over → Checks c ≡ sv → r ≡ room → Open sv → (closed : Closed c r c'' room'') → Known sv room (closed_by c r c'' room'' closed ++ z)
    over_last sv r c is same rooms open' =
        subst (λ (q : List ℕ). (closed : Closed c q c'' room'') → Known sv room (closed_by c q c'' room'' closed ++ z)) (sym rooms)
        (λ closed. subst (λ (k : Sink). Known k room (closed_by c room c'' room'' closed ++ z)) same (over_checks c is (subst Open (sym same) open') closed))

    last_checks : (a : Answer) (sv su : Sink) (o : Bool) (heard : HeardOf a sv room su room') (fin : Finished o su room' (Checks c'') room'') → one.gave.answer ≡ a → o ≡ is_over a → Open sv
        → Known sv room (log_by a sv room su room' heard ++ (end_by o su room' c'' room'' fin ++ z))
    last_checks (Says k) (Checks c) (Checks c') true heard fin is o open' = absurd (true≢false o)
    last_checks (Says k) (Checks c) (Checks c') false heard fin is o open' = wrong_by k c c' is fin.0 fin.1 heard.window heard.stands heard.sought heard.after
    last_checks (Says k) (Checks c) (Writes t') o heard fin is p open' = absurd heard
    last_checks (Says k) (Writes t) (Checks c') o heard fin is p open' = absurd heard
    last_checks (Says k) (Writes t) (Writes t') o heard fin is p open' = absurd fin
    last_checks Silent sv su o heard fin is p open' = absurd (never_silent h s.place b (hand_at s.inputs e f n) (sym (ap (λ x. x.answer) one.asked) ∙ is))
    last_checks (Wants i) sv (Writes t) o heard fin is p open' = absurd fin
    last_checks (Wants i) sv (Checks c) true heard fin is p open' = absurd (true≢false p)
    last_checks (Wants i) sv (Checks c) false heard fin is p open' = going_still c (subst Open (sym heard.0) open') fin.0
    last_checks Over sv (Writes t) o heard fin is p open' = absurd fin
    last_checks Over sv (Checks c) true heard fin is p open' = over_last sv room' c is heard.0 heard.1 open' fin
    last_checks Over sv (Checks c) false heard fin is p open' = absurd (false≢true p)

-- ---- turn after turn

abbrev From : Header → Stream → Buffers → List ℕ → List ℕ → List ℕ → List ℕ → Rest → List ℕ → Apart → Type 0
From h s b e f n room l log v = Checking h s.place b (rest_at s.inputs e f n l) (line_at s.sink) (log_at s.sink room log) v

from_behind : (h : Header) (s : Stream) (b : Buffers) (e f n room : List ℕ) (x y l : Rest) (log came z : List ℕ) (v : Apart) → From h s b e f n room (behind x (behind y l)) (log ++ (came ++ z)) v → From h s b e f n room (behind (behind x y) l) ((log ++ came) ++ z) v
from_behind h s b e f n room x y l log came z v t =
    subst (λ (r : Rest). From h s b e f n room r ((log ++ came) ++ z) v) (sym (behind_behind x y l)) (subst (λ (m : List ℕ). From h s b e f n room (behind x (behind y l)) m v) (sym (append_assoc log came z)) t)

module _ (events far near : List ℕ) where
  checks_on : {h : Header} {s : Stream} {b : Buffers} {e f n room : List ℕ} {x : Rest} {y : List ℕ} {ls : List Line} {u : Stream} {d : Buffers} {e' f' n' room' : List ℕ} → Turns h s b e f n room x y ls u d e' f' n' room'
      → (l : Rest) → Fairly u.inputs l → StandsFrom events far near h s e f n (behind x l) → u.over ≡ false → (z : List ℕ) (v : Apart) → IsCheck u.sink → Open u.sink → FairLog u.sink z → line_at u.sink < top
      → Checking h u.place d (rest_at u.inputs e' f' n' l) (line_at u.sink) (log_at u.sink room' z) v → From h s b e f n room (behind x l) (y ++ z) v
  checks_on none l fair st o z v ic open' last less t = t
  checks_on {h = h} {s = s} {b = b} {e = e} {f = f} {n = n} {room = room} {u = u} {room' = room'} (more {x = x} {y = y} {v = w} {room₁ = room₁} before goes right one) l fair st o z v ic open' last less t =
      let a = one.gave.answer in
      let came = log_by a w.sink room₁ u.sink room' one.heeded.heard in
      let st' = stands_behind events far near h s e f n x (came_by one) l st in
      let at = stands_on events far near before (behind (came_by one) l) (fair_before one l fair) st' in
      let k = turn_checks events far near one l fair at z v a w.sink u.sink one.heeded.heard refl (sym one.heeded.over ∙ o) ic open' last less t in
      from_behind h s b e f n room x (came_by one) l y came z v (checks_on before (behind (came_by one) l) (fair_before one l fair) st' goes (came ++ z) v k.0 right k.1 k.2 k.3)

  module _ (z : List ℕ) (v : Apart) (c'' : Check) (room'' : List ℕ) (last : over c''.log ≡ true → z ≡ []) (less : c''.line < top) (found : Found c''.verdict c''.line (at_hand c''.log room'' ++ z) v) where
    never_found : {A : Type 0} (o : Bool) (k : Sink) (r : List ℕ) → Finished o k r (Checks c'') room'' → o ≡ false → Open k → A
    never_found o (Writes t) r fin is open' = absurd fin
    never_found true (Checks c) r fin is open' = absurd (true≢false is)
    never_found false (Checks c) r fin is open' = going_none c''.verdict c''.line (at_hand c''.log room'' ++ z) v (ap (λ (x : Check). x.verdict) fin.0 ∙ open') found

    loop_checks : {h : Header} {s : Stream} {b : Buffers} {e f n room : List ℕ} {x : Rest} {y : List ℕ} {ls : List Line} {u : Stream} {d : Buffers} {e' f' n' room' : List ℕ} → Turns h s b e f n room x y ls u d e' f' n' room'
        → (l : Rest) → Fairly u.inputs l → StandsFrom events far near h s e f n (behind x l) → s.over ≡ false → Open s.sink → (fin : Finished u.over u.sink room' (Checks c'') room'')
        → From h s b e f n room (behind x l) (y ++ (end_by u.over u.sink room' c'' room'' fin ++ z)) v
    loop_checks {s = s} {room = room} none l fair st o open' fin = never_found s.over s.sink room fin o open'
    loop_checks {h = h} {s = s} {b = b} {e = e} {f = f} {n = n} {room = room} {u = u} {room' = room'} (more {x = x} {y = y} {v = w} {room₁ = room₁} before goes right one) l fair st o open' fin =
        let a = one.gave.answer in
        let came = log_by a w.sink room₁ u.sink room' one.heeded.heard in
        let ends = end_by u.over u.sink room' c'' room'' fin in
        let st' = stands_behind events far near h s e f n x (came_by one) l st in
        let at = stands_on events far near before (behind (came_by one) l) (fair_before one l fair) st' in
        let k = last_checks events far near one l fair at z v c'' room'' last less found a w.sink u.sink u.over one.heeded.heard fin refl one.heeded.over right in
        from_behind h s b e f n room x (came_by one) l y came (ends ++ z) v (checks_on before (behind (came_by one) l) (fair_before one l fair) st' goes (came ++ (ends ++ z)) v k.0 right k.1 k.2 k.3)

-- A loop that has begun as a host begins, and found something of a log, found what `checked` says of it: of the bytes at hand at first, those that came, and those that were left unread.
pub verdict_checked : (events far near log : List ℕ) {h : Header} {s u : Stream} {cleared d : Buffers} {e f n room e' f' n' room' : List ℕ} {x : Rest} {y : List ℕ} {ls : List Line} (first : Piece) (lent : Buffers) (session : Session) (l : Rest)
    (z : List ℕ) (v : Apart) (c c'' : Check) (room'' : List ℕ)
    → Front events first → short (header_length first.bytes) first ≡ false → opened first.bytes ≡ Some h → beginning (begun.Ready session) cleared ≡ beginning_of h lent → s.place ≡ opens session → s.over ≡ false
    → s.sink ≡ Checks c → c.line ≡ 1 → c.verdict ≡ verdict.Going → Turns h s cleared e f n room x y ls u d e' f' n' room' → (fin : Finished u.over u.sink room' (Checks c'') room'')
    → Fairly u.inputs l → (over c''.log ≡ true → z ≡ []) → rest_at s.inputs e f n (behind x l) ≡ rest (drop (offset_of h.form) events) far near
    → at_hand c.log room ++ (y ++ (end_by u.over u.sink room' c'' room'' fin ++ z)) ≡ log
    → c''.line < 2 ^ 64 - 1 → Found c''.verdict c''.line (at_hand c''.log room'' ++ z) v → v ≡ checked events far near log
verdict_checked events far near log {h = h} {s = s} {u = u} {cleared = cleared} {e = e} {f = f} {n = n} {room = room} {room' = room'} {x = x} {y = y} first lent session l z v c c'' room'' front enough header ready place starts sink one-first going turns fin fair last whole bytes less found =
    let q = header_handed events first front enough ∙ header in
    let st = ready_stands events far near h lent cleared session q ready in
    let here = subst (λ (p : Place). turning.StandsAt events far near h p (rest_at s.inputs e f n (behind x l))) (sym place) (subst (turning.StandsAt events far near h (opens session)) (sym whole) st) in
    let all = y ++ (end_by u.over u.sink room' c'' room'' fin ++ z) in
    let checking = loop_checks events far near z v c'' room'' last less found turns l fair here starts (subst Open (sym sink) going) fin in
    let by-sink = subst (λ (k : Sink). Checking h s.place cleared (rest_at s.inputs e f n (behind x l)) (line_at k) (log_at k room all) v) sink checking in
    let numbered = subst (λ (k : ℕ). Checking h s.place cleared (rest_at s.inputs e f n (behind x l)) k (at_hand c.log room ++ all) v) one-first by-sink in
    let rested = subst (λ (r : Rest). Checking h s.place cleared r 1 (at_hand c.log room ++ all) v) whole numbered in
    let placed = subst (λ (p : Place). Checking h p cleared (rest (drop (offset_of h.form) events) far near) 1 (at_hand c.log room ++ all) v) place rested in
    checked_is events far near log v (host.checks v first h lent cleared session front enough header ready (subst (λ (m : List ℕ). Checking h (opens session) cleared (rest (drop (offset_of h.form) events) far near) 1 m v) bytes placed))
