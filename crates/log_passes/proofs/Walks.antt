-- A host that goes by `pass_next` comes to the merge of the two logs' lines of that sort.
use Rattle.std.specs.Prelude.{Option, Some, None}
use Prim.Native.Nat.{ℕ, zero, suc, ◌+◌, ◌^◌, ◌≤◌, ◌<◌}
use mathlib.Core.Path.{◌≡◌, refl, sym, ap, subst, ◌∙◌}
use mathlib.Core.Bool.{Bool}
use mathlib.Core.List.{List, [], ◌∷◌, ◌++◌}
use native.Mathlib.Omega.{arith}
use lib.ListN.{length, take, drop}
use Rattle.answers.specs.Numbers.{next_long_count}
use Rattle.answers.specs.Pick.{pick_true, pick_false, pick_case}
use Rattle.log_lines.specs.declared.Line.{Line}
use Rattle.log_text.specs.Text.{lines_of}
use Rattle.log_text.specs.Cut.{Behind}
use Rattle.log_parts.specs.Sorts.{is_of, of_sort, same_line, differ}
use Rattle.log_parts.specs.Named.{line_in}
use Rattle.log_parts.specs.Merge.{or_else, noted, merge_in}
use Rattle.log_parts.specs.Turns.{turn_of, after}
use Rattle.log_parts.specs.declared.Sort.{Sort}
use Rattle.log_parts.specs.declared.Tally.{Tally}
use Rattle.log_parts.specs.declared.Turn.{Turn}
use Rattle.log_parts.specs.declared.Turn.TheVariants as turn
use Rattle.log_parts.proofs.Turning.{merge_turns}
use Rattle.log_passes.specs.Taking.{taken_in}
use Rattle.log_passes.specs.Passing.{sought_line, sought_read, sought_in, front_at, side_text, turn_at, marked, pass_of, step_of, first_sought, second_sought, turned_by, stepped_by, stepped}
use Rattle.log_passes.specs.Hosts.{Passes, goes, over}
use Rattle.log_passes.specs.declared.taking.Taken.{Taken}
use Rattle.log_passes.specs.declared.taking.Taken.TheVariants as taken
use Rattle.log_passes.specs.declared.passing.Held.{Held}
use Rattle.log_passes.specs.declared.passing.Held.TheVariants.{Sought, Has}
use Rattle.log_passes.specs.declared.passing.Pass.{Pass}
use Rattle.log_passes.specs.declared.passing.Found.{Found}
use Rattle.log_passes.specs.declared.passing.Found.TheVariants as found
use Rattle.log_passes.specs.declared.passing.Need.{Need}
use Rattle.log_passes.specs.declared.passing.Need.TheVariants as need
use Rattle.log_passes.specs.declared.passing.Step.{Step}
use Rattle.log_passes.proofs.Hands.{Took, took}

-- ---- the lines of a text, a text that is none left out: in a log there is none

abbrev known_by : Option Line → List Line → List Line
known_by (Some l) ls = l ∷ ls
known_by None ls = ls

unfoldable pub known : List (List ℕ) → List Line
known [] = []
known (t ∷ ts) = known_by (line_in t) (known ts)

-- the lines of the sort in a text
abbrev pub lines : Sort → List ℕ → List Line
lines s text = of_sort s (known (lines_of text))

-- ---- what is ahead of a pass in one log

abbrev pub ahead : Sort → Held → List ℕ → List Line
ahead s Sought text = lines s text
ahead s (Has None) text = []
ahead s (Has (Some l)) text = l ∷ lines s text

-- what an answer of the search says of them
abbrev Finds : Sort → List ℕ → List ℕ → Found → Type 0
Finds s hand more (found.Here l n) = lines s (hand ++ more) ≡ l ∷ lines s (drop n hand ++ more)
Finds s hand more (found.Other n) = lines s (hand ++ more) ≡ lines s (drop n hand ++ more)
Finds s hand more found.Nothing = lines s (hand ++ more) ≡ []
Finds s hand more found.Wants = Unit {0}
Finds s hand more found.Strange = Unit {0}

none_of : (s : Sort) → of_sort s [] ≡ []
unfolding of_sort
none_of s = refl

module _ (s : Sort) (hand more : List ℕ) where
  read_finds : (used : ℕ) (r : Option Line) → lines s (hand ++ more) ≡ of_sort s (known_by r (known (lines_of (drop used hand ++ more)))) → Finds s hand more (sought_read s used r)
  unfolding sought_read sought_line of_sort
  read_finds used (Some l) e =
      pick_case (Finds s hand more) (is_of s l) _ _
      (λ h. e ∙ pick_true _ _ _ h)
      (λ h. e ∙ pick_false _ _ _ h)
  read_finds used None e = record {}

  finds : (t : Taken) → Took hand more t → Finds s hand more (sought_in s hand t)
  unfolding sought_in known
  finds (taken.Text n used) t = read_finds used (line_in (take n hand)) (ap (λ (ls : List (List ℕ)). of_sort s (known ls)) t.lines)
  finds taken.Nothing t = ap (λ (ls : List (List ℕ)). of_sort s (known ls)) t ∙ none_of s
  finds taken.Wants t = record {}
  finds taken.Long t = record {}

-- ---- what is left of a pass

abbrev left : Sort → Pass → List ℕ → List ℕ → ℕ → Tally
left s p a b f = merge_in f p.tally (ahead s p.first a) (ahead s p.second b)

abbrev pub size : Sort → Pass → List ℕ → List ℕ → ℕ
size s p a b = length (ahead s p.first a) + length (ahead s p.second b)

-- a pass that goes on comes to the same, with fewer lines ahead where one was counted
record Moves (s : Sort) (p q : Pass) (a b c d : List ℕ) : Type 0 where
  same : (f : ℕ) → size s p a b ≤ f → (g : ℕ) × (size s q c d ≤ g) × (left s p a b f ≡ left s q c d g)
  falls : q.tally.count + size s q c d ≤ p.tally.count + size s p a b

abbrev SaysOf : Sort → Pass → List ℕ → List ℕ → List ℕ → List ℕ → Pass → ℕ → ℕ → Need → Type 0
SaysOf s p h m i n q u v need.Goes = Moves s p q (h ++ m) (i ++ n) (drop u h ++ m) (drop v i ++ n)
SaysOf s p h m i n q u v need.Over = (f : ℕ) → left s p (h ++ m) (i ++ n) f ≡ q.tally
SaysOf s p h m i n q u v need.WantsFirst = Unit {0}
SaysOf s p h m i n q u v need.WantsSecond = Unit {0}
SaysOf s p h m i n q u v need.Strange = Unit {0}

abbrev Says : Sort → Pass → List ℕ → List ℕ → List ℕ → List ℕ → Step → Type 0
Says s p h m i n r = SaysOf s p h m i n r.pass r.first_used r.second_used r.need

moves_first : (s : Sort) (x z y : Held) (t : Tally) (a c b : List ℕ) → ahead s x a ≡ ahead s z c → Moves s (pass_of x y t) (pass_of z y t) a b c b
moves_first s x z y t a c b e = record {
  same = λ f k. (f, omega (arith, k, ap length e), ap (λ (l : List Line). merge_in f t l (ahead s y b)) e);
  falls = omega (arith, ap length e);
}

moves_second : (s : Sort) (x y z : Held) (t : Tally) (a b d : List ℕ) → ahead s y b ≡ ahead s z d → Moves s (pass_of x y t) (pass_of x z t) a b a d
moves_second s x y z t a b d e = record {
  same = λ f k. (f, omega (arith, k, ap length e), ap (λ (l : List Line). merge_in f t (ahead s x a) l) e);
  falls = omega (arith, ap length e);
}

-- ---- a step that seeks

module _ (s : Sort) (h m i n : List ℕ) where
  seeks_first : (y : Held) (t : Tally) (r : Found) → Finds s h m r → Says s (pass_of Sought y t) h m i n (first_sought (pass_of Sought y t) r)
  unfolding first_sought
  seeks_first y t (found.Here l k) e = moves_first s Sought (Has (Some l)) y t (h ++ m) (drop k h ++ m) (i ++ n) e
  seeks_first y t (found.Other k) e = moves_first s Sought Sought y t (h ++ m) (drop k h ++ m) (i ++ n) e
  seeks_first y t found.Nothing e = moves_first s Sought (Has None) y t (h ++ m) (h ++ m) (i ++ n) e
  seeks_first y t found.Wants e = record {}
  seeks_first y t found.Strange e = record {}

  seeks_second : (x : Held) (t : Tally) (r : Found) → Finds s i n r → Says s (pass_of x Sought t) h m i n (second_sought (pass_of x Sought t) r)
  unfolding second_sought
  seeks_second x t (found.Here l k) e = moves_second s x Sought (Has (Some l)) t (h ++ m) (i ++ n) (drop k i ++ n) e
  seeks_second x t (found.Other k) e = moves_second s x Sought Sought t (h ++ m) (i ++ n) (drop k i ++ n) e
  seeks_second x t found.Nothing e = moves_second s x Sought (Has None) t (h ++ m) (i ++ n) (i ++ n) e
  seeks_second x t found.Wants e = record {}
  seeks_second x t found.Strange e = record {}

-- ---- a step that turns

-- a count that fits is exact
marks : (t : Tally) (x y : Option Line) → t.count + 1 < 2 ^ 64 → noted t x y ≡ marked t x y
unfolding marked
marks t x y h =
    let up : t.count + 1 ≡ next_long_count t.count = omega (arith, h) in
    ap (λ (c : ℕ). record { count = c; first = or_else t.first (differ x y) }) up

merge_none : (f : ℕ) (t : Tally) → merge_in f t [] [] ≡ t
unfolding merge_in
merge_none zero t = refl
merge_none (suc f) t = refl

-- from one step of the merge, a step of the pass
taken_on : (s : Sort) (p q : Pass) (a b : List ℕ) (x y : Option Line) → p.tally.count + 1 < 2 ^ 64 → size s q a b + 1 ≤ size s p a b → q.tally ≡ marked p.tally x y
    → ((g : ℕ) → merge_in (suc g) p.tally (ahead s p.first a) (ahead s p.second b) ≡ merge_in g (noted p.tally x y) (ahead s q.first a) (ahead s q.second b))
    → Moves s p q a b a b
unfolding marked
taken_on s p q a b x y bound less is step = record {
  same = same;
  falls = omega (arith, less, bound, ap (λ (t : Tally). t.count) is);
}
  where
    same : (f : ℕ) → size s p a b ≤ f → (g : ℕ) × (size s q a b ≤ g) × (left s p a b f ≡ left s q a b g)
    same zero k = absurd (omega (arith, k, less))
    same (suc g) k = (g, omega (arith, k, less), step g ∙ ap (λ (t : Tally). merge_in g t (ahead s q.first a) (ahead s q.second b)) (marks p.tally x y bound ∙ sym is))

module _ (s : Sort) (h m i n : List ℕ) (t : Tally) (bound : t.count + 1 < 2 ^ 64) where
  pair_turns : (l k : Line) (u : Turn) → ((g : ℕ) → merge_in (suc g) t (l ∷ lines s (h ++ m)) (k ∷ lines s (i ++ n)) ≡ after g t (l ∷ lines s (h ++ m)) (k ∷ lines s (i ++ n)) u)
      → Says s (pass_of (Has (Some l)) (Has (Some k)) t) h m i n (turned_by t (Some l) (Some k) u)
  unfolding turned_by after merge_in
  pair_turns l k turn.Over step = ends
    where
      ends : (f : ℕ) → merge_in f t (l ∷ lines s (h ++ m)) (k ∷ lines s (i ++ n)) ≡ t
      ends zero = refl
      ends (suc g) = step g
  pair_turns l k turn.Alike step = record { same = same; falls = omega arith }
    where
      same : (f : ℕ) → size s (pass_of (Has (Some l)) (Has (Some k)) t) (h ++ m) (i ++ n) ≤ f
          → (g : ℕ) × (size s (pass_of Sought Sought t) (h ++ m) (i ++ n) ≤ g) × (left s (pass_of (Has (Some l)) (Has (Some k)) t) (h ++ m) (i ++ n) f ≡ left s (pass_of Sought Sought t) (h ++ m) (i ++ n) g)
      same zero b = absurd (omega (arith, b))
      same (suc g) b = (g, omega (arith, b), step g)
  pair_turns l k turn.First step = taken_on s _ _ (h ++ m) (i ++ n) (Some l) None bound (omega arith) refl step
  pair_turns l k turn.Second step = taken_on s _ _ (h ++ m) (i ++ n) None (Some k) bound (omega arith) refl step
  pair_turns l k turn.Both step = taken_on s _ _ (h ++ m) (i ++ n) (Some l) (Some k) bound (omega arith) refl step

  turns : (x y : Option Line) → Says s (pass_of (Has x) (Has y) t) h m i n (turned_by t x y (turn_at x y))
  unfolding turn_at turned_by turn_of front_at side_text same_line merge_in
  turns None None = λ f. merge_none f t
  turns None (Some k) = taken_on s _ _ (h ++ m) (i ++ n) None (Some k) bound (omega arith) refl (λ g. refl)
  turns (Some l) None = taken_on s _ _ (h ++ m) (i ++ n) (Some l) None bound (omega arith) refl (λ g. refl)
  turns (Some l) (Some k) = pair_turns l k _ (λ g. merge_turns g t (l ∷ lines s (h ++ m)) (k ∷ lines s (i ++ n)))

-- ---- any step

module _ (s : Sort) (h m : List ℕ) (e : Bool) (i n : List ℕ) (f : Bool) (b : Behind e m) (c : Behind f n) where
  says : (x y : Held) (t : Tally) → t.count + 1 < 2 ^ 64 → Says s (pass_of x y t) h m i n (stepped_by s (pass_of x y t) x y h e i f)
  unfolding stepped_by
  says Sought y t k = seeks_first s h m i n y t (sought_in s h (taken_in h e)) (finds s h m (taken_in h e) (took h m e b))
  says (Has x) Sought t k = seeks_second s h m i n (Has x) t (sought_in s i (taken_in i f)) (finds s i n (taken_in i f) (took i n f c))
  says (Has x) (Has y) t k = turns s h m i n t k x y

-- whatever a host holds at each step
pub passes : (s : Sort) (p : Pass) (a b : List ℕ) (t : Tally) → Passes s p a b t → p.tally.count + size s p a b + 1 < 2 ^ 64 → (f : ℕ) → size s p a b ≤ f → t ≡ left s p a b f
unfolding stepped
passes s p a b t w k f r = each w k f r
  where
    told : (p q : Pass) (h m : List ℕ) (e : Bool) (i n : List ℕ) (f : Bool) (u v : ℕ) (o : Need) → Behind e m → Behind f n → p.tally.count + 1 < 2 ^ 64
        → stepped s p h e i f ≡ step_of q u v o → SaysOf s p h m i n q u v o
    told p q h m e i n f u v o b c k r = subst (Says s p h m i n) r (says s h m e i n f b c p.first p.second p.tally k)

    each : {p : Pass} {a b : List ℕ} {t : Tally} → Passes s p a b t → p.tally.count + size s p a b + 1 < 2 ^ 64 → (f : ℕ) → size s p a b ≤ f → t ≡ left s p a b f
    each {p} {a} {b} (goes h m e i n f q u v x y c w) k g r =
        let long : size s p a b ≡ size s p (h ++ m) (i ++ n) = rw (x.joins, y.joins) in
        let is : left s p a b g ≡ left s p (h ++ m) (i ++ n) g = rw (x.joins, y.joins) in
        let moved = told p q h m e i n f u v need.Goes x.behind y.behind (omega (arith, k)) c in
        let on = moved.same g (omega (arith, r, long)) in
        each w (omega (arith, k, long, moved.falls)) on.0 on.1 ∙ sym on.2 ∙ sym is
    each {p} {a} {b} (over h m e i n f q u v x y c) k g r =
        let is : left s p a b g ≡ left s p (h ++ m) (i ++ n) g = rw (x.joins, y.joins) in
        sym (told p q h m e i n f u v need.Over x.behind y.behind (omega (arith, k)) c g) ∙ sym is
