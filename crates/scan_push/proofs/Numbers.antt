-- What is finite is a number.
use mathlib.Core.Path.{◌≡◌, refl, sym, subst}
use mathlib.Core.Bool.{Bool, true, false, not, false≢true}
use lib.Dec.{T}
use lib.Ieee.{Float, nan, inf, fin, is_nan}
use lib.Ieee.Scale.{finite}

pub finite_no_nan : (x : Float) → finite x ≡ true → is_nan x ≡ false
unfolding is_nan
finite_no_nan nan e = absurd (false≢true e)
finite_no_nan (inf s) e = refl
finite_no_nan (fin s m e) h = refl

pub finite_number : (x : Float) → finite x ≡ true → T (not (is_nan x))
finite_number x e = subst (λ (b : Bool). T (not b)) (sym (finite_no_nan x e)) tt
