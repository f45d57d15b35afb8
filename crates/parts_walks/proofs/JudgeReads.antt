-- What the judge's loop comes to is what a host comes to that holds the bytes which the windows brought.
use Rattle.std.specs.Prelude.{Option, Some, None}
use Prim.Native.Nat.{ℕ}
use mathlib.Core.Path.{◌≡◌, refl, sym, ap, subst, ◌∙◌}
use mathlib.Core.Bool.{true}
use mathlib.Core.List.{List, [], ◌++◌, append_assoc}
use lib.ListN.{take}
use Rattle.pipes.specs.Window.{at_hand, Moved}
use Rattle.pipes.specs.declared.window.Window.{Window}
use Rattle.log_parts.proofs.Merges.{clash}
use Rattle.log_parts.specs.declared.Judged.{Judged}
use Rattle.log_parts.specs.Judged.{judged_text}
use Rattle.log_passes.specs.Judging.{judged_as, judged_in}
use Rattle.log_passes.specs.Hosts.{Holds, Heard, Fine, Stops, Judges, goes, over, strange}
use Rattle.log_passes.specs.declared.taking.Taken.{Taken}
use Rattle.log_passes.specs.declared.taking.Taken.TheVariants as taken
use Rattle.log_passes.specs.declared.judging.Judging.{Judging}
use Rattle.log_passes.specs.declared.judging.Judgement.{Judgement}
use Rattle.log_passes.specs.declared.judging.Look.{Look}
use Rattle.log_passes.specs.declared.judging.Look.TheVariants.{Goes, Wants, Over, Strange}
use Rattle.pipes.specs.Window as windows
use Rattle.parts_walks.specs.Judged.{judge_answered, Heeded, came_by, JudgeTurned, JudgeTurns, none, more}
use Rattle.parts_walks.specs.declared.judge.Stand.{Stand}
use Rattle.pipes.proofs.Going.{nothing_comes, hand_on}
use Rattle.parts_walks.proofs.Moving.{behind_is, holds}

-- ---- only a line that is taken changes where the judge stands

abbrev Stays : Look → Judging → Judging → Type 0
Stays (Goes used) j k = Unit {0}
Stays Wants j k = k ≡ j
Stays Over j k = k ≡ j
Stays (Strange n) j k = k ≡ j

stays_as : (j : Judging) (used n : ℕ) (r : Option Judged) → Stays (judged_as j used n r).look j (judged_as j used n r).judging
unfolding judged_as
stays_as j used n (Some g) = record {}
stays_as j used n None = refl

stays_in : (j : Judging) (bytes : List ℕ) (t : Taken) → Stays (judged_in j bytes t).look j (judged_in j bytes t).judging
unfolding judged_in
stays_in j bytes (taken.Text n used) = stays_as j used n (judged_text j.frames j.cycles (take n bytes))
stays_in j bytes taken.Nothing = refl
stays_in j bytes taken.Wants = refl
stays_in j bytes taken.Long = refl

stays : (j : Judging) (bytes : List ℕ) (t : Taken) (k : Judging) (l : Look) → ◌≡◌ {A = Judgement} (record { judging = k; look = l }) (judged_in j bytes t) → Stays l j k
stays j bytes t k l e = subst (λ (m : Judgement). Stays m.look j m.judging) (sym e) (stays_in j bytes t)

-- ---- one turn

-- what is left, told from what was left behind the turn
module _ (j k : Judging) (w w' : Window) (room room' rest : List ℕ) (h : Heard) (behind : windows.over w' ≡ true → rest ≡ []) (left : Judges k (at_hand w' room' ++ rest) h) where
  unmoved : k ≡ j → w' ≡ w → room' ≡ room → Judges j (at_hand w room ++ rest) h
  unmoved e f g =
      subst (λ (i : Judging). Judges i (at_hand w room ++ rest) h) e
      (subst (λ (v : Window). Judges k (at_hand v room ++ rest) h) f (subst (λ (l : List ℕ). Judges k (at_hand w' l ++ rest) h) g left))

  by_look : (l : Look) (d : Heeded l w room w' room') → ◌≡◌ {A = Judgement} (record { judging = k; look = l }) (judge_answered j w room)
      → Judges j (at_hand w room ++ (came_by l w room w' room' d ++ rest)) h
  by_look (Goes used) d e =
      goes (at_hand w room) (d.came ++ rest) (windows.over w) k used (holds used w w' room room' d rest behind) (sym e) (subst (λ (t : List ℕ). Judges k t h) (hand_on used w w' room room' d rest) left)
  by_look Wants d e = subst (λ (i : Judging). Judges i (at_hand w room ++ (d.came ++ rest)) h) (stays j _ _ k Wants e) (subst (λ (t : List ℕ). Judges k t h) (hand_on 0 w w' room room' d rest) left)
  by_look Over d e = unmoved (stays j _ _ k Over e) d.0 d.1
  by_look (Strange n) d e = unmoved (stays j _ _ k (Strange n) e) d.0 d.1

-- nothing is left to come behind what came
ended_before : (l : Look) (w w' : Window) (room room' rest : List ℕ) (d : Heeded l w room w' room') → (windows.over w' ≡ true → rest ≡ []) → windows.over w ≡ true → came_by l w room w' room' d ++ rest ≡ []
ended_before (Goes used) w w' room room' rest d behind o = nothing_comes used w w' room room' d rest behind o
ended_before Wants w w' room room' rest d behind o = nothing_comes 0 w w' room room' d rest behind o
ended_before Over w w' room room' rest d behind o = behind (ap windows.over d.0 ∙ o)
ended_before (Strange n) w w' room room' rest d behind o = behind (ap windows.over d.0 ∙ o)

-- ---- turn after turn

pub reads_on : {s t : Stand} {room room' bytes : List ℕ} → JudgeTurns s room bytes t room' → (rest : List ℕ) (h : Heard) → (windows.over t.window ≡ true → rest ≡ [])
    → Judges t.judging (at_hand t.window room' ++ rest) h → Judges s.judging (at_hand s.window room ++ (bytes ++ rest)) h
reads_on none rest h behind left = left
reads_on {s} {t} {room} {room'} (more {t = m} {room₁ = between} {bytes = bytes} before one) rest h behind left =
    let came = came_by t.look m.window between t.window room' one.done in
    subst (λ (l : List ℕ). Judges s.judging (at_hand s.window room ++ l) h) (sym (append_assoc bytes came rest))
    (reads_on before (came ++ rest) h
    (ended_before t.look m.window t.window between room' rest one.done behind)
    (by_look m.judging t.judging m.window t.window between room' rest h behind left t.look one.done one.said))

-- ---- the last turn

-- where the judge stops nothing moves
module _ (w w' : Window) (room room' : List ℕ) where
  still_over : (l : Look) (d : Heeded l w room w' room') → l ≡ Over → came_by l w room w' room' d ≡ []
  still_over (Goes used) d e = clash (cc)
  still_over Wants d e = clash (cc)
  still_over Over d e = refl
  still_over (Strange n) d e = clash (cc)

  still_strange : (n : ℕ) (l : Look) (d : Heeded l w room w' room') → l ≡ Strange n → (came_by l w room w' room' d ≡ []) × (w' ≡ w) × (room' ≡ room)
  still_strange n (Goes used) d e = clash (cc)
  still_strange n Wants d e = clash (cc)
  still_strange n Over d e = clash (cc)
  still_strange n (Strange m) d e = (refl, d.0, d.1)

said_at : {s t : Stand} {room room' : List ℕ} (l : Look) → JudgeTurned s room t room' → t.look ≡ l → judge_answered s.judging s.window room ≡ record { judging = t.judging; look = l }
said_at {s} {t} l one e = sym one.said ∙ ap (λ (k : Look). record { judging = t.judging; look = k }) e

holds_all : (w : Window) (room : List ℕ) → Holds (at_hand w room ++ []) (at_hand w room) [] (windows.over w)
holds_all w room = record { joins = refl; behind = behind_is (windows.over w) [] (λ o. refl) }

-- the loop came to the end of the log: of the bytes that came, behind those at hand, a host hears that each line is one of a log
pub judge_fine : {s t : Stand} {room room' bytes : List ℕ} → s.look ≡ Wants → JudgeTurns s room bytes t room' → t.look ≡ Over → Judges s.judging (at_hand s.window room ++ bytes) Fine
judge_fine first none last = clash (cc)
judge_fine {s} {t} {room} {room'} first (more {t = m} {room₁ = between} {bytes = bytes} before one) last =
    subst (λ (l : List ℕ). Judges s.judging (at_hand s.window room ++ (bytes ++ l)) Fine) (sym (still_over m.window t.window between room' t.look one.done last))
    (reads_on before [] Fine (λ o. refl) (over (at_hand m.window between) [] (windows.over m.window) t.judging (holds_all m.window between) (said_at Over one last)))

-- it stopped before a line: a host hears the same place, and the same bytes of that line
pub judge_stops : {s t : Stand} {room room' bytes : List ℕ} (n : ℕ) → s.look ≡ Wants → JudgeTurns s room bytes t room' → t.look ≡ Strange n
    → Judges s.judging (at_hand s.window room ++ bytes) (Stops t.judging.place (take n (at_hand t.window room')))
judge_stops n first none last = clash (cc)
judge_stops {s} {t} {room} {room'} n first (more {t = m} {room₁ = between} {bytes = bytes} before one) last =
    let still = still_strange m.window t.window between room' n t.look one.done last in
    let at : t.judging ≡ m.judging = stays m.judging _ _ t.judging (Strange n) (sym (said_at (Strange n) one last)) in
    let told : Stops m.judging.place (take n (at_hand m.window between)) ≡ Stops t.judging.place (take n (at_hand t.window room')) =
    ap (λ (j : Judging). Stops j.place (take n (at_hand m.window between))) (sym at)
    ∙ ap (λ (w : Window). Stops t.judging.place (take n (at_hand w between))) (sym still.1)
    ∙ ap (λ (l : List ℕ). Stops t.judging.place (take n (at_hand t.window l))) (sym still.2) in
    subst (λ (h : Heard). Judges s.judging (at_hand s.window room ++ (bytes ++ came_by t.look m.window between t.window room' one.done)) h) told
    (subst (λ (l : List ℕ). Judges s.judging (at_hand s.window room ++ (bytes ++ l)) (Stops m.judging.place (take n (at_hand m.window between)))) (sym still.0)
    (reads_on before [] _ (λ o. refl) (strange (at_hand m.window between) [] (windows.over m.window) t.judging n (holds_all m.window between) (said_at (Strange n) one last))))
