-- What is named is a log, and every log is named; else the place told is the first that no log goes on with.
use Rattle.std.specs.Prelude.{Option, Some, None}
use Prim.Native.Nat.{ℕ, ◌+◌}
use mathlib.Core.Path.{◌≡◌, refl, sym, ap, subst, ◌∙◌}
use mathlib.Core.Logic.{◌↔◌}
use mathlib.Core.Bool.{Bool, true, false}
use mathlib.Core.List.{List, [], ◌∷◌, ◌++◌, map}
use native.Mathlib.Omega.{arith}
use lib.Dec.{leb}
use lib.ListN.{length}
use borrow.Author.Tests.{leb-true, le-leb}
use Rattle.answers.specs.Pick.{pick, both, pick_true, pick_case}
use Rattle.answers.proofs.Passed.{both_true}
use Rattle.log_lines.specs.Lines.{text_of, in_range}
use Rattle.log_lines.specs.Calls.{IsLine, Reads}
use Rattle.log_lines.specs.Steps.{seen_in, guessed}
use Rattle.log_lines.specs.declared.Line.{Line}
use Rattle.log_lines.proofs.Guesses.{line_back}
use Rattle.log_text.specs.Text.{same_text}
use Rattle.log_text.proofs.Text.{same_texts, text_itself}
use Rattle.log_parts.specs.Sorts.{is_of, of_sort, number_of, Rising, AllRanged}
use Rattle.log_parts.specs.declared.Sort.{Sort}
use Rattle.log_parts.specs.declared.Sort.TheVariants.{Frames, Cycles}
use Rattle.log_parts.specs.Named.{line_in, Named, Lines, NotALog, in_front, rises, next_least, goes_on, named_as, named_from, named, GoodFrom, GoodLog, FirstStrange}
use Rattle.log_parts.proofs.Merges.{clash}

-- ---- a text that is read is the line's

read_sound : (t : List ℕ) (l : Line) → line_in t ≡ Some l → IsLine t l
unfolding line_in
read_sound t l e =
    pick_case (λ (r : Option Line). r ≡ Some l → IsLine t l) (both (same_text t (text_of (guessed (seen_in t)))) (in_range (guessed (seen_in t)))) _ _
    (λ h e. let b = both_true (same_text t (text_of (guessed (seen_in t)))) (in_range (guessed (seen_in t))) h in
    let is : guessed (seen_in t) ≡ l = cc in
    subst (IsLine t) is (record { spelt = same_texts t (text_of (guessed (seen_in t))) b.0; ranged = b.1 }))
    (λ h e. clash (cc))
    e

read_text : (l : Line) → in_range l ≡ true → line_in (text_of l) ≡ Some l
unfolding line_in pick
read_text l r = rw (line_back l r, text_itself (text_of l), r)

-- reading is the rule of SPECIFICATION 12: the answer is the one that the reader's contract admits
pub line_read : (t : List ℕ) → Reads t (line_in t)
line_read t = record { sound = read_sound t; whole = λ l i. rw i.spelt (read_text l i.ranged) }

-- ---- numbers that rise, line by line

module _ (least n : ℕ) (l : Line) (is : number_of l ≡ n) (rest : List Line) where
  rising_by : (b : Bool) → pick b (leb least n) true ≡ true → Rising (pick b (n + 1) least) rest → Rising least (pick b (l ∷ rest) rest)
  unfolding pick
  rising_by true e r = (omega (arith, leb-true least n e, is), subst (λ (m : ℕ). Rising (m + 1) rest) (sym is) r)
  rising_by false e r = r

  falling_by : (b : Bool) → Rising least (pick b (l ∷ rest) rest) → (pick b (leb least n) true ≡ true) × Rising (pick b (n + 1) least) rest
  unfolding pick
  falling_by true r = (le-leb least n (omega (arith, r.0, is)), subst (λ (m : ℕ). Rising (m + 1) rest) is r.1)
  falling_by false r = (refl, r)

rising_on : (s : Sort) (least : ℕ) (l : Line) (ls : List Line) → rises s least l ≡ true → Rising (next_least s least l) (of_sort s ls) → Rising least (of_sort s (l ∷ ls))
unfolding rises next_least of_sort
rising_on s least l ls e r = rising_by least (number_of l) l refl (of_sort s ls) (is_of s l) e r

rising_off : (s : Sort) (least : ℕ) (l : Line) (ls : List Line) → Rising least (of_sort s (l ∷ ls)) → (rises s least l ≡ true) × Rising (next_least s least l) (of_sort s ls)
unfolding rises next_least of_sort
rising_off s least l ls r = falling_by least (number_of l) l refl (of_sort s ls) (is_of s l) r

-- ---- what is named is a log

good_on : (f c : ℕ) (t : List ℕ) (l : Line) (ts : List (List ℕ)) (ls : List Line) → line_in t ≡ Some l → goes_on f c l ≡ true
    → GoodFrom (next_least Frames f l) (next_least Cycles c l) ts ls → GoodFrom f c (t ∷ ts) (l ∷ ls)
good_on f c t l ts ls e h g =
    let i = read_sound t l e in
    let b = both_true (rises Frames f l) (rises Cycles c l) h in
    record {
      texts = rw (i.spelt, g.texts);
      ranged = (i.ranged, g.ranged);
      frames_rise = rising_on Frames f l ls b.0 g.frames_rise;
      cycles_rise = rising_on Cycles c l ls b.1 g.cycles_rise;
    }

no_lines_lem : (f c : ℕ) → GoodFrom f c [] []
unfolding of_sort
no_lines_lem f c = record { texts = refl; ranged = record {}; frames_rise = record {}; cycles_rise = record {} }

-- a line in front of lines
in_front_lem : (l : Line) (n : Named) (ls : List Line) → in_front l n ≡ Lines ls → (rest : List Line) × (n ≡ Lines rest) × (l ∷ rest ≡ ls)
in_front_lem l (Lines rest) ls e = (rest, refl, cc)
in_front_lem l (NotALog k t) ls e = clash (cc)

good_behind : (place f c : ℕ) (t : List ℕ) (ts : List (List ℕ)) (r : Option Line) → line_in t ≡ r → (behind : ℕ → ℕ → Named)
    → ((f c : ℕ) (ls : List Line) → behind f c ≡ Lines ls → GoodFrom f c ts ls) → (ls : List Line) → named_as place f c t r behind ≡ Lines ls → GoodFrom f c (t ∷ ts) ls
unfolding named_as
good_behind place f c t ts None i behind go ls e = clash (cc)
good_behind place f c t ts (Some l) i behind go ls e =
    pick_case (λ (n : Named). n ≡ Lines ls → GoodFrom f c (t ∷ ts) ls) (goes_on f c l) _ _
    (λ h e. let p = in_front_lem l _ ls e in subst (GoodFrom f c (t ∷ ts)) p.2 (good_on f c t l ts p.0 i h (go _ _ p.0 p.1)))
    (λ h e. clash (cc))
    e

good_named : (place f c : ℕ) (ts : List (List ℕ)) (ls : List Line) → named_from place f c ts ≡ Lines ls → GoodFrom f c ts ls
unfolding named_from
good_named place f c [] [] e = no_lines_lem f c
good_named place f c [] (l ∷ ls) e = clash (cc)
good_named place f c (t ∷ ts) ls e = good_behind place f c t ts (line_in t) refl (λ f c. named_from (place + 1) f c ts) (λ f c ls. good_named (place + 1) f c ts ls) ls e

-- ---- every log is named

-- a line that is read and goes on
named_on : (place f c : ℕ) (t : List ℕ) (l : Line) (ts : List (List ℕ)) → line_in t ≡ Some l → goes_on f c l ≡ true
    → named_from place f c (t ∷ ts) ≡ in_front l (named_from (place + 1) (next_least Frames f l) (next_least Cycles c l) ts)
unfolding named_from named_as
named_on place f c t l ts e h = rw (e, named_as) (pick_true _ _ _ h)

named_back : (place f c : ℕ) (ls : List Line) → AllRanged ls → Rising f (of_sort Frames ls) → Rising c (of_sort Cycles ls) → named_from place f c (map text_of ls) ≡ Lines ls
unfolding named_from
named_back place f c [] r p q = refl
named_back place f c (l ∷ ls) r p q =
    let u = rising_off Frames f l ls p in
    let v = rising_off Cycles c l ls q in
    named_on place f c (text_of l) l (map text_of ls) (read_text l r.0) (pick_true _ _ _ u.0 ∙ v.0)
    ∙ ap (in_front l) (named_back (place + 1) _ _ ls r.1 u.1 v.1)

named_whole : (place f c : ℕ) (ts : List (List ℕ)) (ls : List Line) → GoodFrom f c ts ls → named_from place f c ts ≡ Lines ls
named_whole place f c ts ls g = rw g.texts (named_back place f c ls g.ranged g.frames_rise g.cycles_rise)

-- "repeated or falling frame or cycle numbers count as such": the lines are named exactly if they are those of a log
pub named_exactly : (ts : List (List ℕ)) (ls : List Line) → (named ts ≡ Lines ls) ↔ GoodLog ts ls
unfolding named
named_exactly ts ls = (good_named 1 0 0 ts ls, named_whole 1 0 0 ts ls)

-- ---- the place of the first that is none

record Stops (f c from : ℕ) (ts : List (List ℕ)) (place : ℕ) (t : List ℕ) : Type 0 where
  good : List (List ℕ)
  rest : List (List ℕ)
  parts : ts ≡ good ++ t ∷ rest
  there : place ≡ from + length good
  lines : List Line
  is_good : GoodFrom f c good lines
  stops : named_from from f c (good ++ t ∷ []) ≡ NotALog place t

-- it is the first of all
stops_here : (f c from : ℕ) (u : List ℕ) (ts : List (List ℕ)) (place : ℕ) (t : List ℕ) → NotALog from u ≡ NotALog place t → named_from from f c (u ∷ []) ≡ NotALog from u → Stops f c from (u ∷ ts) place t
stops_here f c from u ts place t e s =
    let here : from ≡ place = cc in
    let same : u ≡ t = cc in
    record { good = []; rest = ts; parts = rw same; there = omega (arith, here); lines = []; is_good = no_lines_lem f c; stops = subst (λ (v : List ℕ). named_from from f c (v ∷ []) ≡ NotALog place t) same (s ∙ e) }

behind_front : (l : Line) (n : Named) (place : ℕ) (t : List ℕ) → in_front l n ≡ NotALog place t → n ≡ NotALog place t
behind_front l (Lines rest) place t e = clash (cc)
behind_front l (NotALog k u) place t e = e

stops_behind : (from f c : ℕ) (u : List ℕ) (ts : List (List ℕ)) (r : Option Line) → line_in u ≡ r → ((f c place : ℕ) (t : List ℕ) → named_from (from + 1) f c ts ≡ NotALog place t → Stops f c (from + 1) ts place t)
    → (place : ℕ) (t : List ℕ) → named_as from f c u r (λ f c. named_from (from + 1) f c ts) ≡ NotALog place t → Stops f c from (u ∷ ts) place t
unfolding named_as named_from pick
stops_behind from f c u ts None i go place t e = stops_here f c from u ts place t e (rw (named_from, i, named_as))
stops_behind from f c u ts (Some l) i go place t e =
    pick_case (λ (n : Named). n ≡ NotALog place t → Stops f c from (u ∷ ts) place t) (goes_on f c l) _ _
    (λ h e. let s = go _ _ place t (behind_front l _ place t e) in
    record {
      good = u ∷ s.good;
      rest = s.rest;
      parts = ap (λ (v : List (List ℕ)). u ∷ v) s.parts;
      there = omega (arith, s.there);
      lines = l ∷ s.lines;
      is_good = good_on f c u l s.good s.lines i h s.is_good;
      stops = named_on from f c u l (s.good ++ t ∷ []) i h ∙ ap (in_front l) s.stops;
    })
    (λ h e. stops_here f c from u ts place t e (rw (named_from, i, named_as, h)))
    e

stops_at : (from f c : ℕ) (ts : List (List ℕ)) (place : ℕ) (t : List ℕ) → named_from from f c ts ≡ NotALog place t → Stops f c from ts place t
unfolding named_from
stops_at from f c [] place t e = clash (cc)
stops_at from f c (u ∷ ts) place t e = stops_behind from f c u ts (line_in u) refl (λ f c place t. stops_at (from + 1) f c ts place t) place t e

-- request b: "Lines that are not log lines .. are named and the tool stops there"
pub named_strange : (ts : List (List ℕ)) (place : ℕ) (t : List ℕ) → named ts ≡ NotALog place t → FirstStrange 0 0 1 ts place t
unfolding named
named_strange ts place t e =
    let s = stops_at 1 0 0 ts place t e in
    record {
      good = s.good;
      rest = s.rest;
      parts = s.parts;
      there = s.there;
      lines = s.lines;
      is_good = s.is_good;
      no_more = λ ls g. let w = named_whole 1 0 0 (s.good ++ t ∷ []) ls g in let v = s.stops in clash (cc);
    }
