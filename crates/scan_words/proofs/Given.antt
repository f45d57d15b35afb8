-- The two reports of a float that stands in the state give what they tell, unless it is a NaN: that keeps the pattern that it has there. The products of a frame do not change its number.
use Prim.Native.Nat.{ℕ}
use mathlib.Core.Path.{◌≡◌, refl, ap}
use mathlib.Core.Bool.{false}
use mathlib.Core.List.{List, [], ◌∷◌, ◌++◌}
use lib.ListN.{set}
use lib.Ieee.{Float, Format, binary32, binary64, is_nan, to_bits}
use Rattle.answers.specs.Pick.{pick_false}
use Rattle.words.specs.Words.{pattern_of}
use Rattle.words.specs.Answers.{number, values_of, put_from, given}
use Rattle.scan.specs.Told.{frame_told, region_told, level_told}
use Rattle.scan.specs.declared.Region.{Region}
use Rattle.scan.specs.declared.Found.TheVariants.{At}
use Rattle.scan.specs.declared.Frame.{Frame}
use Rattle.scan.specs.declared.Frame.TheVariants as frame
use Rattle.scan.specs.declared.RegionReport.TheVariants as region
use Rattle.scan.specs.declared.LevelReport.TheVariants as level
use Rattle.scan_words.specs.Answers.{placed, found_given, region_given, level_given}

pattern_told : (f : Format) (old : ℕ) (x : Float) → is_nan x ≡ false → pattern_of f old x ≡ to_bits f x
unfolding pattern_of
pattern_told f old x h = pick_false _ _ _ h

pub region_given_lem : (vs : List ℕ) (old : ℕ) (r : Region) → is_nan r.correlation ≡ false → region_given vs old (region.Is (At r)) ≡ given vs (region_told (region.Is (At r)))
unfolding region_given found_given values_of put_from
region_given_lem vs old r h = ap (placed vs r) (pattern_told binary64 old r.correlation h)

pub level_given_lem : (vs : List ℕ) (old : ℕ) (x : Float) → is_nan x ≡ false → level_given vs old (level.Is x) ≡ given vs (level_told (level.Is x))
unfolding level_given values_of put_from
level_given_lem vs old x h = ap (set vs 0) (pattern_told binary32 old x h)

pub products_behind : (f : Frame) (products : ℕ) → number (frame_told f ++ (products ∷ [])) ≡ number (frame_told f)
unfolding number
products_behind frame.Uncovered products = refl
products_behind frame.Ahead products = refl
products_behind frame.Quiet products = refl
products_behind frame.Flat products = refl
products_behind (frame.Banked peak) products = refl
products_behind frame.Weak products = refl
products_behind frame.Ceiling products = refl
products_behind frame.Crowded products = refl
products_behind (frame.Region r) products = refl
