-- `floats::narrow_usual` meets its contract: the exponent's field and the digits, rounded together.
use Prim.Native.Nat.{ℕ, ◌+◌, ◌/◌, ◌%◌, ◌^◌}
use native.Mathlib.Omega.{arith}
use mathlib.Core.Path.{◌∙◌, ap, sym}
use mathlib.Core.Bool.{cond}
use Rattle.floats.proofs.Narrowing.{narrow_normal, normal_le, usual}
use Rattle.floats.proofs.narrow_usual.Goals as goal

pub returns : goal.returns
returns c =
    let b = c.args.size in
    let e = usual b c.requires.0 in
    record {
      below = omega (arith, e, c.requires, normal_le (b % 2 ^ 52) (omega arith));
      is = λ s. narrow_normal s (b / 2 ^ 52) (b % 2 ^ 52) (omega (arith, c.requires)) (omega (arith, c.requires)) (omega arith) ∙ ap (λ (y : ℕ). cond s (2 ^ 31) 0 + y) (sym e);
    }
