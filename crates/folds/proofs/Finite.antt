-- The loops that test whether every value is finite: `fine` is what the values passed came to.
use Rattle.std.proofs.Common.{◌≡◌, ℕ, ◌+◌, ◌<◌, ◌≤◌, Bool, true, false, List, length, drop, refl, add-one, drop_of_length-le, drop-cons}
use lib.Ieee.{Float, nan}
use lib.Ieee.Scale.{finite}
use Rattle.answers.specs.Pick.{pick, both}
use Rattle.folds.specs.Sums.{all_finite, at}

-- with the values from i on, that is what all of them come to
abbrev pub Tested : List Float → ℕ → Bool → Type 0
Tested xs i fine = both fine (all_finite (drop i xs)) ≡ all_finite xs

pub none_tested : (xs : List Float) → Tested xs 0 true
unfolding pick
none_tested xs = refl

pub next : (xs : List Float) (i : ℕ) → i < length xs → all_finite (drop i xs) ≡ both (finite (at xs i)) (all_finite (drop (i + 1) xs))
unfolding all_finite
next xs i h = rw (add-one, drop-cons xs i nan)

pub is_finite : (xs : List Float) (i : ℕ) (fine : Bool) → i < length xs → finite (at xs i) ≡ true → Tested xs i fine → Tested xs (i + 1) fine
unfolding pick
is_finite xs i fine h e t = rw (next xs i h, e) at t

pub not_finite : (xs : List Float) (i : ℕ) (fine : Bool) → i < length xs → finite (at xs i) ≡ false → Tested xs i fine → Tested xs (i + 1) false
unfolding pick
not_finite xs i true h e t = rw (next xs i h, e) at t
not_finite xs i false h e t = t

pub all_tested : (xs : List Float) (i : ℕ) (fine : Bool) → length xs ≤ i → Tested xs i fine → fine ≡ all_finite xs
unfolding pick all_finite
all_tested xs i true h t = rw (drop_of_length-le xs h) at t
all_tested xs i false h t = t
