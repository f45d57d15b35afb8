-- A host that goes by `judge_next` comes to what `named` says of the log.
use Rattle.std.specs.Prelude.{Option, Some, None}
use Prim.Native.Nat.{ℕ, ◌+◌, ◌^◌, ◌≤◌, ◌<◌}
use mathlib.Core.Path.{◌≡◌, refl, sym, ap, subst, ◌∙◌}
use mathlib.Core.Bool.{Bool}
use mathlib.Core.List.{List, [], ◌∷◌, ◌++◌}
use native.Mathlib.Omega.{arith}
use lib.ListN.{length, take, drop, length-take}
use lib.Seq.{take_all}
use Rattle.answers.specs.Numbers.{next_long_count}
use Rattle.log_lines.specs.declared.Line.{Line}
use Rattle.log_text.specs.Text.{lines_of}
use Rattle.log_text.specs.Cut.{longest, Behind}
use Rattle.log_parts.specs.Named.{Named, Lines, NotALog, in_front, named_from}
use Rattle.log_parts.specs.Judged.{least_after, judged_text, judged_read, goes_as}
use Rattle.log_parts.specs.declared.Judged.{Judged}
use Rattle.log_parts.proofs.Judging.{judge_names, too_long}
use Rattle.log_passes.specs.Taking.{taken_in}
use Rattle.log_passes.specs.Judging.{judged_as, judged_in}
use Rattle.log_passes.specs.Hosts.{Heard, Fine, Stops, heard, Judges, goes, over, strange}
use Rattle.log_passes.specs.declared.taking.Taken.{Taken}
use Rattle.log_passes.specs.declared.taking.Taken.TheVariants as taken
use Rattle.log_passes.specs.declared.judging.Judging.{Judging}
use Rattle.log_passes.specs.declared.judging.Judgement.{Judgement}
use Rattle.log_passes.specs.declared.judging.Look.{Look}
use Rattle.log_passes.specs.declared.judging.Look.TheVariants as look
use Rattle.log_passes.proofs.Hands.{Took, took}

-- what the texts that are left come to
abbrev left : Judging → List (List ℕ) → Heard
left j ts = heard (named_from j.place (least_after j.frames) (least_after j.cycles) ts)

heard_behind : (l : Line) (n : Named) → heard (in_front l n) ≡ heard n
heard_behind l (Lines ls) = refl
heard_behind l (NotALog k t) = refl

-- what a judgement says of the texts ahead, of which the first is t
abbrev SaidOf : Judging → List ℕ → List (List ℕ) → ℕ → ℕ → Judging → Look → Type 0
SaidOf j t ts used n i (look.Goes u) = (left j (t ∷ ts) ≡ left i ts) × (i.place ≡ j.place + 1) × (u ≡ used)
SaidOf j t ts used n i look.Wants = ⊥
SaidOf j t ts used n i look.Over = ⊥
SaidOf j t ts used n i (look.Strange k) = (left j (t ∷ ts) ≡ Stops j.place (take 76 t)) × (k ≡ n)

abbrev Said : Judging → List ℕ → List (List ℕ) → ℕ → ℕ → Judgement → Type 0
Said j t ts used n m = SaidOf j t ts used n m.judging m.look

said : (j : Judging) (t : List ℕ) (ts : List (List ℕ)) (used n : ℕ) → j.place + 1 < 2 ^ 64 → Said j t ts used n (judged_as j used n (judged_text j.frames j.cycles t))
unfolding judged_as goes_as
said j t ts used n h = each (judged_text j.frames j.cycles t) (judge_names j.place j.frames j.cycles t ts)
  where
    each : (r : Option Judged) → named_from j.place (least_after j.frames) (least_after j.cycles) (t ∷ ts) ≡ goes_as j.place t r (λ m n. named_from (j.place + 1) m n ts)
        → Said j t ts used n (judged_as j used n r)
    each (Some g) e =
        let up : next_long_count j.place ≡ j.place + 1 = omega (arith, h) in
        (ap heard e ∙ heard_behind g.line (named_from (j.place + 1) (least_after g.frames) (least_after g.cycles) ts) ∙ ap (λ (k : ℕ). heard (named_from k (least_after g.frames) (least_after g.cycles) ts)) (sym up), up, refl)
    each None e = (ap heard e, refl)

-- ---- a step

nothing_left : (j : Judging) → left j [] ≡ Fine
unfolding named_from
nothing_left j = refl

long_left : (j : Judging) (t : List ℕ) (ts : List (List ℕ)) → longest < length t → left j (t ∷ ts) ≡ Stops j.place (take 76 t)
unfolding judged_text goes_as
long_left j t ts h = ap heard (judge_names j.place j.frames j.cycles t ts ∙ ap (λ r. goes_as j.place t (judged_read j.frames j.cycles r) (λ m n. named_from (j.place + 1) m n ts)) (too_long t h))

-- what a judgement says of the lines ahead
abbrev SaysOf : Judging → List ℕ → List ℕ → Judging → Look → Type 0
SaysOf j hand more i (look.Goes used) =
    (left j (lines_of (hand ++ more)) ≡ left i (lines_of (drop used hand ++ more)))
    × (i.place ≡ j.place + 1)
    × (length (lines_of (hand ++ more)) ≡ length (lines_of (drop used hand ++ more)) + 1)
SaysOf j hand more i look.Wants = Unit {0}
SaysOf j hand more i look.Over = left j (lines_of (hand ++ more)) ≡ Fine
SaysOf j hand more i (look.Strange n) = left j (lines_of (hand ++ more)) ≡ Stops j.place (take n hand)

abbrev Says : Judging → List ℕ → List ℕ → Judgement → Type 0
Says j hand more m = SaysOf j hand more m.judging m.look

says : (j : Judging) (hand more : List ℕ) (p : Taken) → j.place + 1 < 2 ^ 64 → Took hand more p → Says j hand more (judged_in j hand p)
unfolding judged_in
says j hand more (taken.Text n used) h t =
    let m = judged_as j used n (judged_text j.frames j.cycles (take n hand)) in
    by m.judging m.look (said j (take n hand) (lines_of (drop used hand ++ more)) used n h)
  where
    by : (i : Judging) (o : Look) → SaidOf j (take n hand) (lines_of (drop used hand ++ more)) used n i o → SaysOf j hand more i o
    by i (look.Goes u) s = (
      ap (left j) t.lines ∙ s.0 ∙ ap (λ (k : ℕ). left i (lines_of (drop k hand ++ more))) (sym s.2),
      s.1,
      omega (arith, ap length t.lines, ap (λ (k : ℕ). length (lines_of (drop k hand ++ more))) s.2),
    )
    by i look.Wants s = absurd s
    by i look.Over s = absurd s
    by i (look.Strange k) s =
        let size : length (take n hand) ≤ 76 = omega (arith, length-take n hand, t.short) in
        ap (left j) t.lines ∙ s.0 ∙ ap (Stops j.place) (take_all 76 (take n hand) size ∙ ap (λ (i : ℕ). take i hand) (sym s.1))
says j hand more taken.Nothing h t = ap (left j) t ∙ nothing_left j
says j hand more taken.Wants h t = record {}
says j hand more taken.Long h t = ap (left j) t.parts ∙ long_left j t.line t.others t.long ∙ ap (Stops j.place) t.starts

-- ---- the walk

-- whatever a host holds at each step
pub judges : (j : Judging) (text : List ℕ) (h : Heard) → Judges j text h → j.place + length (lines_of text) + 1 < 2 ^ 64 → h ≡ left j (lines_of text)
judges j text h w n = each w n
  where
    told : (j k : Judging) (hand more : List ℕ) (ended : Bool) (o : Look) → Behind ended more → j.place + 1 < 2 ^ 64
        → judged_in j hand (taken_in hand ended) ≡ record { judging = k; look = o } → SaysOf j hand more k o
    told j k hand more ended o b n e = subst (Says j hand more) e (says j hand more (taken_in hand ended) n (took hand more ended b))

    each : {j : Judging} {text : List ℕ} {h : Heard} → Judges j text h → j.place + length (lines_of text) + 1 < 2 ^ 64 → h ≡ left j (lines_of text)
    each {j} {text} (goes hand more ended k used t e w) n =
        let s = told j k hand more ended (look.Goes used) t.behind (omega (arith, n)) e in
        let size : length (lines_of text) ≡ length (lines_of (drop used hand ++ more)) + 1 = ap (λ (x : List ℕ). length (lines_of x)) t.joins ∙ s.2 in
        each w (omega (arith, n, size, s.1)) ∙ sym s.0 ∙ ap (λ (x : List ℕ). left j (lines_of x)) (sym t.joins)
    each {j} {text} (over hand more ended k t e) n =
        sym (told j k hand more ended look.Over t.behind (omega (arith, n)) e) ∙ ap (λ (x : List ℕ). left j (lines_of x)) (sym t.joins)
    each {j} {text} (strange hand more ended k m t e) n =
        sym (told j k hand more ended (look.Strange m) t.behind (omega (arith, n)) e) ∙ ap (λ (x : List ℕ). left j (lines_of x)) (sym t.joins)
