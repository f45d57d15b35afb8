-- `floats::narrow_size` meets its contract, in the four ranges of the exponent's field.
use borrow.Author.Rules.{rules}
use Prim.Native.Nat.{ℕ, ◌+◌, ◌/◌, ◌%◌, ◌^◌}
use native.Mathlib.Omega.{arith}
use lib.Dec.{lit<}
use mathlib.Core.Path.{◌∙◌, ap, sym}
use mathlib.Core.Bool.{cond}
use Rattle.floats.proofs.Narrowing.{narrow_over, narrow_none, narrow_low, low_le}
use Rattle.floats.proofs.narrow_size.Goals as goal

pub returns-then-x-gt1150 : goal.returns-then-x-gt1150
returns-then-x-gt1150 c = record { below = lit< tt; is = λ s. narrow_over s (c.args.size / 2 ^ 52) (c.args.size % 2 ^ 52) c.if-x-gt1150.true (omega arith) (λ e. omega arith) }

pub returns-then-x-lt873 : goal.returns-then-x-lt873
returns-then-x-lt873 c = record { below = lit< tt; is = λ s. narrow_none s (c.args.size / 2 ^ 52) (c.args.size % 2 ^ 52) c.if-x-lt873.true (omega arith) }

pub returns-then-x-lt897 : goal.returns-then-x-lt897
returns-then-x-lt897 c =
    let x = c.args.size / 2 ^ 52 in
    let t = c.args.size % 2 ^ 52 in
    record {
      below = omega (arith, low_le x t (search rules) (omega arith), c.to_even.ensures);
      is = λ s. narrow_low s x t (omega arith) (search rules) (omega arith) ∙ ap (λ (y : ℕ). cond s (2 ^ 31) 0 + y) (sym c.to_even.ensures);
    }

pub returns : goal.returns
returns c = c.narrow_usual.ensures
