-- What an answer tells is the whole answer: two answers that tell the same are the same. A ratio is told by its pattern, which says all of a binary64.
use Rattle.std.specs.Prelude.{None, Some}
use Prim.Native.Nat.{ℕ}
use mathlib.Core.Path.{◌≡◌, refl, sym, ap, ◌∙◌}
use lib.Dec.{T}
use lib.Ieee as Ieee
use lib.Ieee.{Float, binary64, of_bits, to_bits}
use lib.Ieee.Bits.{of_bits-to_bits}
use Rattle.units.specs.Units.{samples}
use Rattle.fine.specs.State.{positions}
use Rattle.fine.specs.declared.Positions.{Positions}
use Rattle.fine.specs.declared.SamplesReport.{SamplesReport}
use Rattle.fine.specs.declared.SamplesReport.TheVariants as samplesReport
use Rattle.fine.specs.declared.RangeReport.{RangeReport}
use Rattle.fine.specs.declared.RangeReport.TheVariants as range
use Rattle.fine.specs.declared.RatioReport.{RatioReport}
use Rattle.fine.specs.declared.RatioReport.TheVariants as ratio
use Rattle.fine.specs.declared.PositionReport.{PositionReport}
use Rattle.fine.specs.declared.PositionReport.TheVariants as position
use Rattle.fine.specs.Told.{samples_told, range_told, ratio_told, position_told}

pub samples_told_lem : (x y : SamplesReport) → samples_told x ≡ samples_told y → x ≡ y
samples_told_lem (samplesReport.Refused m) (samplesReport.Refused n) e = cc
samples_told_lem (samplesReport.Refused m) (samplesReport.Is d) e = cc
samples_told_lem (samplesReport.Is d) (samplesReport.Refused n) e = cc
samples_told_lem (samplesReport.Is d) (samplesReport.Is c) e = let h : d.0 ≡ c.0 = cc in ap (λ (k : ℕ). samplesReport.Is (samples k)) h

abbrev between : ℕ → ℕ → RangeReport
between first last = range.Is (record { first = samples first; last = samples last })

pub range_told_lem : (x y : RangeReport) → range_told x ≡ range_told y → x ≡ y
range_told_lem (range.Refused m) (range.Refused n) e = cc
range_told_lem (range.Refused m) (range.Is r) e = cc
range_told_lem (range.Is r) (range.Refused n) e = cc
range_told_lem (range.Is r) (range.Is q) e =
    let first : r.first.0 ≡ q.first.0 = cc in
    let last : r.last.0 ≡ q.last.0 = cc in
    ap (λ (k : ℕ). between k r.last.0) first ∙ ap (between q.first.0) last

pub same_pattern : (x y : Float) → T (Ieee.fits binary64 x) → T (Ieee.fits binary64 y) → to_bits binary64 x ≡ to_bits binary64 y → x ≡ y
same_pattern x y h k e = sym (of_bits-to_bits binary64 x h) ∙ ap (of_bits binary64) e ∙ of_bits-to_bits binary64 y k

-- the ratio of a report, where it has one, is a binary64
abbrev pub Binary64 : RatioReport → Type 0
Binary64 (ratio.Refused n) = Unit {0}
Binary64 (ratio.Is x) = T (Ieee.fits binary64 x)

pub ratio_told_lem : (x y : RatioReport) → Binary64 x → Binary64 y → ratio_told x ≡ ratio_told y → x ≡ y
ratio_told_lem (ratio.Refused m) (ratio.Refused n) h k e = cc
ratio_told_lem (ratio.Refused m) (ratio.Is y) h k e = cc
ratio_told_lem (ratio.Is x) (ratio.Refused n) h k e = cc
ratio_told_lem (ratio.Is x) (ratio.Is y) h k e = ap ratio.Is (same_pattern x y h k (cc))

pub same_positions : (p q : Positions) → p.first ≡ q.first → p.last ≡ q.last → p ≡ q
same_positions p q first last = ap (λ (k : ℕ). positions k p.last) first ∙ ap (positions q.first) last

pub position_told_lem : (x y : PositionReport) → position_told x ≡ position_told y → x ≡ y
position_told_lem (position.Refused m) (position.Refused n) e = cc
position_told_lem (position.Refused m) (position.Is None) e = cc
position_told_lem (position.Refused m) (position.Is (Some k)) e = cc
position_told_lem (position.Is None) (position.Refused n) e = cc
position_told_lem (position.Is None) (position.Is None) e = refl
position_told_lem (position.Is None) (position.Is (Some k)) e = cc
position_told_lem (position.Is (Some j)) (position.Refused n) e = cc
position_told_lem (position.Is (Some j)) (position.Is None) e = cc
position_told_lem (position.Is (Some j)) (position.Is (Some k)) e =
    let first : j.first ≡ k.first = cc in
    let last : j.last ≡ k.last = cc in
    ap (λ (p : Positions). position.Is (Some p)) (same_positions j k first last)
