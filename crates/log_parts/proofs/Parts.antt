-- What `parting` answers of two logs.
use Rattle.std.specs.Prelude.{Option, None}
use Prim.Native.Nat.{ℕ}
use mathlib.Core.Path.{◌≡◌, refl, sym, ap, subst, ◌∙◌}
use mathlib.Core.Logic.Iff
use mathlib.Core.Logic.{◌↔◌}
use mathlib.Core.Bool.{Bool, true, false}
use mathlib.Core.List.{List, [], ◌∷◌}
use native.Mathlib.Omega.{arith}
use Rattle.answers.specs.Pick.{pick, pick_true, pick_case}
use Rattle.answers.specs.Refusals.{none}
use Rattle.log_lines.specs.declared.Line.{Line}
use Rattle.log_lines.proofs.Theorems.{one_line}
use Rattle.log_text.specs.Apart as places
use Rattle.log_text.proofs.Apart as placed
use Rattle.log_parts.specs.declared.Difference.{Difference}
use Rattle.log_parts.specs.Sorts.{is_of, of_sort, same_line, Rising, AllRanged}
use Rattle.log_parts.specs.declared.Sort.{Sort}
use Rattle.log_parts.specs.declared.Sort.TheVariants.{Headers, Frames, Cycles, Refusals, Closings}
use Rattle.log_parts.specs.Named.{Named, Lines, NotALog, named, GoodLog}
use Rattle.log_parts.specs.Numbers.{differing}
use Rattle.log_parts.specs.Parts.{by_order, NotALogLine, Same, Parts, report_of, compared, judged, parting, refusal_of, turned_first, turned_report, turned, AlikeCounts, Merged}
use Rattle.log_parts.proofs.Merges.{clash, merges, same_texts_of, line_itself, line_turned, none_counted, none_named, count_turned, first_turned}
use Rattle.log_parts.proofs.Named.{named_exactly}

-- ---- two logs are compared

module _ (s t : List (List ℕ)) (a b : List Line) (good-s : GoodLog s a) (good-t : GoodLog t b) where
  pub compares : parting s t ≡ compared a b (places.first_apart 1 s t)
  unfolding parting
  compares = rw ((named_exactly s a).1 good-s, (named_exactly t b).1 good-t)

-- ---- `same`

same_places : (a b : List Line) (r : places.Apart) → compared a b r ≡ Same → r ≡ places.Same
same_places a b places.Same e = refl
same_places a b (places.At k x y) e = clash (cc)

same_judged : (n m : Named) (r : places.Apart) → judged n m r ≡ Same → (a : List Line) × (n ≡ Lines a) × (r ≡ places.Same)
same_judged (NotALog k t) m r e = clash (cc)
same_judged (Lines a) (NotALog k t) r e = clash (cc)
same_judged (Lines a) (Lines b) r e = (a, refl, same_places a b r e)

-- "Equal logs give the single line `same`", and no others do
pub same_exactly : (s t : List (List ℕ)) → (parting s t ≡ Same) ↔ ((a : List Line) × GoodLog s a × (s ≡ t))
unfolding parting
same_exactly s t = (
  (λ e. let j = same_judged (named s) (named t) (places.first_apart 1 s t) e in
      (j.0, (named_exactly s j.0).0 j.1, (placed.same_exactly 1 s t).0 j.2)),
  λ h. subst (λ (u : List (List ℕ)). parting s u ≡ Same) h.2 (compares s s h.0 h.0 h.1 h.1 ∙ ap (compared h.0 h.0) ((placed.same_exactly 1 s s).1 refl)),
)

-- ---- refusal 8

not_refused : (n m : Named) (r : places.Apart) → refusal_of (judged n m r) ≡ none → (a b : List Line) × (n ≡ Lines a) × (m ≡ Lines b)
not_refused (NotALog k t) m r e = absurd (omega (arith, e))
not_refused (Lines a) (NotALog k t) r e = absurd (omega (arith, e))
not_refused (Lines a) (Lines b) r e = (a, b, refl, refl)

compared_unrefused : (a b : List Line) (r : places.Apart) → refusal_of (compared a b r) ≡ none
compared_unrefused a b places.Same = refl
compared_unrefused a b (places.At k x y) = refl

-- "Refusals: 8, not a log line": nothing is refused exactly if both are logs
pub refused_exactly : (s t : List (List ℕ)) → (refusal_of (parting s t) ≡ none) ↔ ((a b : List Line) × GoodLog s a × GoodLog t b)
unfolding parting
refused_exactly s t = (
  (λ e. let n = not_refused (named s) (named t) (places.first_apart 1 s t) e in (n.0, n.1, (named_exactly s n.0).0 n.2, (named_exactly t n.1).0 n.3)),
  λ h. ap refusal_of (compares s t h.0 h.1 h.2 h.3) ∙ compared_unrefused h.0 h.1 (places.first_apart 1 s t),
)

-- "Lines that are not log lines .. are named and the tool stops there": the first log's first such line, whatever stands in the second
pub names_first : (s t : List (List ℕ)) (k : ℕ) (x : List ℕ) → named s ≡ NotALog k x → parting s t ≡ NotALogLine 1 k x
unfolding parting
names_first s t k x e = rw e

-- the second log's, where the first is a log
pub names_second : (s t : List (List ℕ)) (a : List Line) (k : ℕ) (x : List ℕ) → GoodLog s a → named t ≡ NotALog k x → parting s t ≡ NotALogLine 2 k x
unfolding parting
names_second s t a k x good e = rw ((named_exactly s a).1 good, e)

-- ---- lines in order

order_texts : (a b : List Line) → AllRanged a → AllRanged b → by_order a b ≡ None → a ≡ b
unfolding by_order
order_texts [] [] p q e = refl
order_texts [] (y ∷ b) p q e = clash (cc)
order_texts (x ∷ a) [] p q e = clash (cc)
order_texts (x ∷ a) (y ∷ b) p q e =
    pick_case (λ (f : Option Difference). f ≡ None → x ∷ a ≡ y ∷ b) (same_line x y) _ _
    (λ s e. rw (one_line x y p.0 q.0 (same_texts_of x y s), order_texts a b p.1 q.1 e))
    (λ s e. clash (cc))
    e

order_itself : (a : List Line) → by_order a a ≡ None
unfolding by_order
order_itself [] = refl
order_itself (x ∷ a) = pick_true _ _ _ (line_itself x) ∙ order_itself a

pub order_exactly : (a b : List Line) → AllRanged a → AllRanged b → (by_order a b ≡ None) ↔ (a ≡ b)
order_exactly a b p q = (order_texts a b p q, λ e. subst (λ (l : List Line). by_order a l ≡ None) e (order_itself a))

turned_pick : (c : Bool) (f g u v : Option Difference) → g ≡ turned_first f → v ≡ turned_first u → pick c g v ≡ turned_first (pick c f u)
unfolding pick
turned_pick true f g u v p q = p
turned_pick false f g u v p q = q

order_turned : (a b : List Line) → by_order b a ≡ turned_first (by_order a b)
unfolding by_order
order_turned [] [] = refl
order_turned [] (y ∷ b) = refl
order_turned (x ∷ a) [] = refl
order_turned (x ∷ a) (y ∷ b) = rw (line_turned x y) (turned_pick (same_line x y) _ _ _ _ (order_turned a b) refl)

-- ---- the lines of a sort

ranged_of : (s : Sort) (ls : List Line) → AllRanged ls → AllRanged (of_sort s ls)
unfolding of_sort
ranged_of s [] r = record {}
ranged_of s (l ∷ ls) r = pick_case AllRanged (is_of s l) _ _ (λ e. (r.0, ranged_of s ls r.1)) (λ e. ranged_of s ls r.1)

-- ---- the report

module _ (s t : List (List ℕ)) (a b : List Line) (good-s : GoodLog s a) (good-t : GoodLog t b) where
  in_order : (o : Sort) → (by_order (of_sort o a) (of_sort o b) ≡ None) ↔ (of_sort o a ≡ of_sort o b)
  in_order o = order_exactly (of_sort o a) (of_sort o b) (ranged_of o a good-s.ranged) (ranged_of o b good-t.ranged)

  counted : (o : Sort) → Rising 0 (of_sort o a) → Rising 0 (of_sort o b) → (differing (of_sort o a) (of_sort o b) ≡ 0) ↔ (of_sort o a ≡ of_sort o b)
  counted o p q = none_counted 0 (of_sort o a) (of_sort o b) p q (ranged_of o a good-s.ranged) (ranged_of o b good-t.ranged)

  -- nothing of a sort is counted, and nothing of it named, exactly if the two logs have the same lines of it
  pub alike_counts : (place : ℕ) → AlikeCounts a b (report_of a b place)
  unfolding report_of
  alike_counts place =
      let f = counted Frames good-s.frames_rise good-t.frames_rise in
      let c = counted Cycles good-s.cycles_rise good-t.cycles_rise in
      record {
        frames_counted = f;
        frames_named = Iff.trans (none_named 0 (of_sort Frames a) (of_sort Frames b) good-s.frames_rise good-t.frames_rise) f;
        cycles_counted = c;
        cycles_named = Iff.trans (none_named 0 (of_sort Cycles a) (of_sort Cycles b) good-s.cycles_rise good-t.cycles_rise) c;
        headers_named = in_order Headers;
        refusals_named = in_order Refusals;
        closings_named = in_order Closings;
      }

  -- the one pass of frames, and that of cycles
  pub merged_report : (place : ℕ) → Merged a b (report_of a b place)
  unfolding report_of
  merged_report place =
      record {
        of_frames = merges 0 (of_sort Frames a) (of_sort Frames b) good-s.frames_rise good-t.frames_rise;
        of_cycles = merges 0 (of_sort Cycles a) (of_sort Cycles b) good-s.cycles_rise good-t.cycles_rise;
      }

  report_turned : (place : ℕ) → report_of b a place ≡ turned_report (report_of a b place)
  unfolding report_of
  report_turned place =
      rw (
        order_turned (of_sort Headers a) (of_sort Headers b),
        first_turned (of_sort Frames a) (of_sort Frames b),
        first_turned (of_sort Cycles a) (of_sort Cycles b),
        order_turned (of_sort Refusals a) (of_sort Refusals b),
        order_turned (of_sort Closings a) (of_sort Closings b),
        count_turned 0 (of_sort Frames a) (of_sort Frames b) good-s.frames_rise good-t.frames_rise,
        count_turned 0 (of_sort Cycles a) (of_sort Cycles b) good-s.cycles_rise good-t.cycles_rise,
      )

  compared_turned : (r : places.Apart) → compared b a (places.exchanged r) ≡ turned (compared a b r)
  compared_turned places.Same = refl
  compared_turned (places.At k x y) = ap Parts (report_turned k)

  -- of two logs, the other way round, the sides are exchanged
  pub mirrored : parting t s ≡ turned (parting s t)
  mirrored =
      compares t s b a good-t good-s
      ∙ ap (compared b a) (placed.apart_turned 1 s t)
      ∙ compared_turned (places.first_apart 1 s t)
      ∙ ap turned (sym (compares s t a b good-s good-t))

  -- logs that are not the same part: the report's place is the first where they differ
  pub parts_at : (k : ℕ) (x y : places.Side) → places.first_apart 1 s t ≡ places.At k x y → (parting s t ≡ Parts (report_of a b k)) × places.FirstWrong 1 s t k x y
  parts_at k x y e = (compares s t a b good-s good-t ∙ ap (compared a b) e, placed.first_wrong 1 s t k x y e)
