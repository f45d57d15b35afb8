-- The best average beside the peak, with one lag more.
use Prim.Native.Nat.{ℕ, ◌+◌}
use mathlib.Core.Path.{◌≡◌}
use mathlib.Core.List.{List}
use native.Mathlib.Numerals.{add-one}
use lib.Ieee.{Float}
use Rattle.folds.specs.Sums.{at}
use Rattle.scan.specs.Scoring.{rival_with, rival_upto}
use Rattle.scan.specs.declared.Geometry.{Geometry}

pub rival_more : (g : Geometry) (averages : List Float) (k n : ℕ) (best : Float) → best ≡ rival_upto g averages k n
    → rival_with g k best n (at averages n) ≡ rival_upto g averages k (n + 1)
unfolding rival_upto
rival_more g averages k n best e = rw add-one (cc)
