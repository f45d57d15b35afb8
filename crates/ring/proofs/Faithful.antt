-- What the ring's own answer tells is the whole answer: two that tell the same are the same.
use mathlib.Core.Path.{◌≡◌, refl}
use Rattle.ring.specs.declared.Kept.{Kept}
use Rattle.ring.specs.declared.Kept.TheVariants as kept
use Rattle.ring.specs.Told.{kept_told}

pub kept_told_lem : (x y : Kept) → kept_told x ≡ kept_told y → x ≡ y
kept_told_lem (kept.Refused m) (kept.Refused n) e = cc
kept_told_lem (kept.Refused m) kept.NotKept e = cc
kept_told_lem (kept.Refused m) (kept.At n) e = cc
kept_told_lem kept.NotKept (kept.Refused n) e = cc
kept_told_lem kept.NotKept kept.NotKept e = refl
kept_told_lem kept.NotKept (kept.At n) e = cc
kept_told_lem (kept.At m) (kept.Refused n) e = cc
kept_told_lem (kept.At m) kept.NotKept e = cc
kept_told_lem (kept.At m) (kept.At n) e = cc
