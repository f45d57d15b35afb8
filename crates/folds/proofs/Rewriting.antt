-- Laws of values rewritten in place: nothing yet, one value more, all of them.
use Rattle.std.proofs.Common.{◌≡◌, ℕ, ◌+◌, ◌<◌, List, length, take, set, refl, ap, ◌∙◌, subst, arith, length-set}
use lib.Ieee.{Float}
use Rattle.folds.specs.Sums.{table, at}
use Rattle.folds.specs.Rewriting.{Rewritten}
use Rattle.folds.proofs.Laws.{grow, whole, rest}

pub untouched : (f : ℕ → Float → Float) (old : List Float) → Rewritten f old 0 old
unfolding table
untouched f old = record { size = refl; done = refl; left = λ j h. refl }

pub one_more : (f : ℕ → Float → Float) (old : List Float) (n : ℕ) (xs : List Float) (v : Float) → Rewritten f old n xs → n < length xs → v ≡ f n (at xs n)
    → Rewritten f old (n + 1) (set xs n v)
one_more f old n xs v r h e =
    record {
      size = length-set xs n v ∙ r.size;
      done = grow (λ (j : ℕ). f j (at old j)) xs n v h r.done (e ∙ ap (f n) (r.left n (omega arith)));
      left = rest xs old n v r.left;
    }

pub rewritten : (f : ℕ → Float → Float) (old : List Float) (n : ℕ) (xs : List Float) → Rewritten f old n xs → n ≡ length xs
    → xs ≡ table (λ j. f j (at old j)) (length old)
rewritten f old n xs r e =
    let m : n ≡ length old = e ∙ r.size in
    whole (λ (j : ℕ). f j (at old j)) xs (length old) r.size (subst (λ (k : ℕ). take k xs ≡ table (λ j. f j (at old j)) k) m r.done)
