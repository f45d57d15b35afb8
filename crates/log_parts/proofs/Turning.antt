-- The turns, one after the other, are the one pass.
use Rattle.std.specs.Prelude.{Some, None}
use Prim.Native.Nat.{ℕ, suc}
use mathlib.Core.Path.{◌≡◌, refl}
use mathlib.Core.Bool.{Bool, true, false}
use mathlib.Core.List.{List, [], ◌∷◌}
use lib.Dec.{ltb}
use Rattle.answers.specs.Pick.{pick}
use Rattle.log_lines.specs.declared.Line.{Line}
use Rattle.log_parts.specs.Sorts.{number_of, same_line}
use Rattle.log_parts.specs.Merge.{noted, merge_in}
use Rattle.log_parts.specs.declared.Tally.{Tally}
use Rattle.log_parts.specs.Turns.{turn_of, front_of, same_fronts, after}
use Rattle.log_parts.specs.declared.Turn.TheVariants.{Alike, First, Second, Both}

pub merge_turns : (f : ℕ) (t : Tally) (a b : List Line) → merge_in (suc f) t a b ≡ after f t a b (turn_of (front_of a) (front_of b) (same_fronts a b))
unfolding merge_in after turn_of pick
merge_turns f t [] [] = refl
merge_turns f t [] (y ∷ b) = refl
merge_turns f t (x ∷ a) [] = refl
merge_turns f t (x ∷ a) (y ∷ b) = each (ltb (number_of x) (number_of y)) (ltb (number_of y) (number_of x)) (same_line x y)
  where
    each : (l g s : Bool) →
        pick l (merge_in f (noted t (Some x) None) a (y ∷ b)) (
        pick g (merge_in f (noted t None (Some y)) (x ∷ a) b)
        (merge_in f (pick s t (noted t (Some x) (Some y))) a b))
        ≡ after f t (x ∷ a) (y ∷ b) (pick l First (pick g Second (pick s Alike Both)))
    each true g s = refl
    each false true s = refl
    each false false true = refl
    each false false false = refl
