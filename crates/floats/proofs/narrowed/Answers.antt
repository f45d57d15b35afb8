-- `floats::narrowed` meets its contract: a NaN gives the NaN, and any other result is read from its pattern.
use mathlib.Core.Path.{◌≡◌, ◌∙◌, sym, ap, subst}
use Prim.Native.Nat.{ℕ}
use lib.Dec.{T}
use lib.Ieee.{binary32, binary64, fits, of_bits, to_bits}
use Rattle.floats.specs.Operations.{NarrowsBits}
use Rattle.floats.specs.Functions.{narrow}
use Rattle.floats.proofs.Readback.{is_nan_lem, no_nan, read_back, read_nan, no_nan_bits}
use Rattle.floats.proofs.Laws.{narrow_fits, narrow_bits_of, narrow_meets}
use Rattle.floats.proofs.narrowed.Goals as goal
use Rattle.floats.proofs.narrowed.Goals.{Start}

held : (c : Start) → T (fits binary64 c.args.x)
held c = subst T (sym c.well_formed.0.1) tt

pattern : (c : Start) (n : ℕ) → NarrowsBits (to_bits binary64 c.args.x) n → n ≡ to_bits binary32 (narrow c.args.x)
pattern c n r = narrow_bits_of c.args.x n (held c) r

pub returns-then-is_nan : goal.returns-then-is_nan
unfolding narrow of_bits
returns-then-is_nan c = narrow_meets c.args.x _ (sym (ap (narrow) (is_nan_lem c.args.x (sym c.is_nan.ensures.value ∙ c.if-is_nan.true))))

pub float_to_bits-x : goal.float_to_bits-x
float_to_bits-x c = no_nan c.args.x (sym c.is_nan.ensures.value ∙ c.if-is_nan.false)

pub returns-then-n-eq-NO_NUMBER_32 : goal.returns-then-n-eq-NO_NUMBER_32
unfolding to_bits of_bits
returns-then-n-eq-NO_NUMBER_32 c = narrow_meets c.args.x _ (read_nan binary32 _ _ (narrow_fits c.args.x) (pattern c.before.before.before.before _ c.narrow_bits-n.ensures) c.if-n-eq-NO_NUMBER_32.true)

pub float_from_bits-result : goal.float_from_bits-result
unfolding to_bits
float_from_bits-result c = no_nan_bits binary32 _ _ (narrow_fits c.args.x) (pattern c.before.before.before.before _ c.narrow_bits-n.ensures) c.if-n-eq-NO_NUMBER_32.false

pub returns : goal.returns
returns c = narrow_meets c.args.x _ (read_back binary32 _ _ (narrow_fits c.args.x) (pattern c.before.before.before.before _ c.narrow_bits-n.ensures))
