-- `floats::square_root_with` meets its contract: a NaN gives the NaN, and any other result is read from its pattern.
use mathlib.Core.Path.{◌≡◌, ◌∙◌, sym, ap, subst}
use Prim.Native.Nat.{ℕ}
use lib.Dec.{T}
use lib.Ieee.{binary64, fits, of_bits, to_bits}
use Rattle.floats.specs.Operations.{RootsBits}
use Rattle.floats.specs.Functions.{root}
use Rattle.floats.proofs.Readback.{is_nan_lem, no_nan, read_back, read_nan, no_nan_bits}
use Rattle.floats.proofs.Laws.{root_fits, root_bits_of, root_meets}
use Rattle.floats.proofs.square_root_with.Goals as goal
use Rattle.floats.proofs.square_root_with.Goals.{Start}

held : (c : Start) → T (fits binary64 c.args.x)
held c = subst T (sym c.well_formed.1.0.1) tt

pattern : (c : Start) (n : ℕ) → RootsBits (to_bits binary64 c.args.x) n → n ≡ to_bits binary64 (root binary64 c.args.x)
pattern c n r = root_bits_of c.args.x n (held c) r

pub returns-then-is_nan : goal.returns-then-is_nan
unfolding root of_bits
returns-then-is_nan c = root_meets binary64 c.args.x _ (sym (ap (root binary64) (is_nan_lem c.args.x (sym c.is_nan.ensures.value ∙ c.if-is_nan.true))))

pub float_to_bits-x : goal.float_to_bits-x
float_to_bits-x c = no_nan c.args.x (sym c.is_nan.ensures.value ∙ c.if-is_nan.false)

pub returns-then-n-eq-NO_NUMBER : goal.returns-then-n-eq-NO_NUMBER
unfolding to_bits of_bits
returns-then-n-eq-NO_NUMBER c = root_meets binary64 c.args.x _ (read_nan binary64 _ _ (root_fits binary64 c.args.x (held c.before.before.before.before.before.before)) (pattern c.before.before.before.before.before.before _ c.root_bits_with-n.ensures) c.if-n-eq-NO_NUMBER.true)

pub float_from_bits-result : goal.float_from_bits-result
unfolding to_bits
float_from_bits-result c = no_nan_bits binary64 _ _ (root_fits binary64 c.args.x (held c.before.before.before.before.before.before)) (pattern c.before.before.before.before.before.before _ c.root_bits_with-n.ensures) c.if-n-eq-NO_NUMBER.false

pub returns : goal.returns
returns c = root_meets binary64 c.args.x _ (read_back binary64 _ _ (root_fits binary64 c.args.x (held c.before.before.before.before.before.before)) (pattern c.before.before.before.before.before.before _ c.root_bits_with-n.ensures))
