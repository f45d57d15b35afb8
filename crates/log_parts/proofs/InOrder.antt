-- Lines without numbers of their own: the one pass takes them pair by pair, and the first difference that it holds is that in their order.
use Rattle.std.specs.Prelude.{Option, Some, None}
use Prim.Native.Nat.{ℕ, zero, suc, ◌+◌, ◌≤◌}
use mathlib.Core.Path.{◌≡◌, refl, ◌∙◌}
use mathlib.Core.Bool.{Bool, true, false, false≢true}
use mathlib.Core.List.{List, [], ◌∷◌}
use native.Mathlib.Omega.{arith}
use lib.ListN.{length}
use Rattle.answers.specs.Pick.{pick}
use Rattle.log_lines.specs.declared.Line.{Line}
use Rattle.log_lines.specs.declared.Line.TheVariants.{Replay, Frame, Cycle, Refused, End, BadHeader, BadEvent, BadTotals}
use Rattle.log_parts.specs.declared.Difference.{Difference}
use Rattle.log_parts.specs.Sorts.{sort_of, number_of, is_of, of_sort, same_line, differ}
use Rattle.log_parts.specs.declared.Sort.{Sort}
use Rattle.log_parts.specs.declared.Sort.TheVariants.{Headers, Frames, Cycles, Refusals, Closings}
use Rattle.log_parts.specs.declared.Tally.{Tally}
use Rattle.log_parts.specs.Merge.{or_else, noted, merge_in, unmarked, merge}
use Rattle.log_parts.specs.Parts.{by_order}

-- none of them has a number of its own
abbrev pub Unnumbered : List Line → Type 0
Unnumbered [] = Unit {0}
Unnumbered (l ∷ ls) = (number_of l ≡ 0) × Unnumbered ls

stays : (f : Option Difference) (x y : Option Line) (g : Option Difference) → or_else (or_else f (differ x y)) g ≡ or_else f (differ x y)
stays None x y g = refl
stays (Some d) x y g = refl

nothing_more : (f : Option Difference) → f ≡ or_else f None
nothing_more None = refl
nothing_more (Some d) = refl

pairs : (f : ℕ) (t : Tally) (x y : Line) (a b : List Line) → (merge_in f t a b).first ≡ or_else t.first (by_order a b)
    → (merge_in f (noted t (Some x) (Some y)) a b).first ≡ or_else (or_else t.first (differ (Some x) (Some y))) (by_order a b) → (s : Bool)
    → (merge_in f (pick s t (noted t (Some x) (Some y))) a b).first ≡ or_else t.first (pick s (by_order a b) (differ (Some x) (Some y)))
unfolding pick
pairs f t x y a b e g true = e
pairs f t x y a b e g false = g ∙ stays t.first (Some x) (Some y) (by_order a b)

in_order : (f : ℕ) (t : Tally) (a b : List Line) → Unnumbered a → Unnumbered b → length a + length b ≤ f → (merge_in f t a b).first ≡ or_else t.first (by_order a b)
unfolding merge_in by_order pick
in_order zero t [] [] p q h = nothing_more t.first
in_order zero t [] (y ∷ b) p q h = absurd (omega (arith, h))
in_order zero t (x ∷ a) b p q h = absurd (omega (arith, h))
in_order (suc f) t [] [] p q h = nothing_more t.first
in_order (suc f) t [] (y ∷ b) p q h = in_order f (noted t None (Some y)) [] b p q.1 (omega (arith, h)) ∙ stays t.first None (Some y) (by_order [] b)
in_order (suc f) t (x ∷ a) [] p q h = in_order f (noted t (Some x) None) a [] p.1 q (omega (arith, h)) ∙ stays t.first (Some x) None (by_order a [])
in_order (suc f) t (x ∷ a) (y ∷ b) p q h = rw (p.0, q.0) (pairs f t x y a b (in_order f t a b p.1 q.1 (omega (arith, h))) (in_order f (noted t (Some x) (Some y)) a b p.1 q.1 (omega (arith, h))) (same_line x y))

-- the n-th with the n-th
pub merge_orders : (a b : List Line) → Unnumbered a → Unnumbered b → (merge a b).first ≡ by_order a b
unfolding merge
merge_orders a b p q = in_order (length a + length b) unmarked a b p q (omega arith)

-- ---- headers, refusals and closings have no numbers of their own

abbrev pub Plain : Sort → Type 0
Plain Headers = Unit {0}
Plain Frames = ⊥
Plain Cycles = ⊥
Plain Refusals = Unit {0}
Plain Closings = Unit {0}

other : (l : Line) (ls : List Line) (b : Bool) → (b ≡ true → number_of l ≡ 0) → Unnumbered ls → Unnumbered (pick b (l ∷ ls) ls)
unfolding pick
other l ls true z u = (z refl, u)
other l ls false z u = u

plain_line : (s : Sort) → Plain s → (l : Line) → is_of s l ≡ true → number_of l ≡ 0
unfolding is_of sort_of number_of
plain_line Headers p (Replay r c) h = refl
plain_line Headers p (Frame n w) h = absurd (false≢true h)
plain_line Headers p (Cycle n v) h = absurd (false≢true h)
plain_line Headers p (Refused e n) h = refl
plain_line Headers p (End f c) h = refl
plain_line Headers p BadHeader h = refl
plain_line Headers p (BadEvent e) h = refl
plain_line Headers p BadTotals h = refl
plain_line Refusals p (Replay r c) h = refl
plain_line Refusals p (Frame n w) h = absurd (false≢true h)
plain_line Refusals p (Cycle n v) h = absurd (false≢true h)
plain_line Refusals p (Refused e n) h = refl
plain_line Refusals p (End f c) h = refl
plain_line Refusals p BadHeader h = refl
plain_line Refusals p (BadEvent e) h = refl
plain_line Refusals p BadTotals h = refl
plain_line Closings p (Replay r c) h = refl
plain_line Closings p (Frame n w) h = absurd (false≢true h)
plain_line Closings p (Cycle n v) h = absurd (false≢true h)
plain_line Closings p (Refused e n) h = refl
plain_line Closings p (End f c) h = refl
plain_line Closings p BadHeader h = refl
plain_line Closings p (BadEvent e) h = refl
plain_line Closings p BadTotals h = refl
plain_line Frames p l h = absurd p
plain_line Cycles p l h = absurd p

pub plain_sort : (s : Sort) → Plain s → (ls : List Line) → Unnumbered (of_sort s ls)
unfolding of_sort
plain_sort s p [] = record {}
plain_sort s p (l ∷ ls) = other l (of_sort s ls) (is_of s l) (plain_line s p l) (plain_sort s p ls)
