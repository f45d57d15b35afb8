-- `floats::root_scaled` meets its contract: what the parts ensure, one after the other.
use mathlib.Core.Path.{◌≡◌, ◌∙◌, ap, subst}
use Prim.Native.Nat.{ℕ, ◌+◌, ◌-◌, ◌*◌, ◌/◌, ◌%◌, ◌^◌}
use native.Mathlib.Omega.{arith}
use Rattle.floats.specs.Steps.{Marked}
use Rattle.floats.proofs.RootFields.{once_or_twice, part_le, quarter_le}
use Rattle.floats.proofs.root_scaled.Goals as goal

left : (s h w n : ℕ) → s + h ≡ n + w → s + h - w ≡ n
left s h w n e = omega arith

pub overflow_mul-n : goal.overflow_mul-n
overflow_mul-n c = omega (arith, part_le c.args.m c.args.e)

pub overflow_add-n : goal.overflow_add-n
overflow_add-n c = omega (arith, part_le c.args.m c.args.e)

pub whole_root-requires : goal.whole_root-requires
whole_root-requires c = (omega arith, omega (arith, part_le c.args.m c.args.e), c.requires.3)

pub widen-requires : goal.widen-requires
widen-requires c = record { at_least = omega arith; below = omega (arith, part_le c.args.m c.args.e); is = c.whole_root.ensures }

pub overflow_add-result : goal.overflow_add-result
overflow_add-result c = omega (arith, c.to_even.ensures, quarter_le c.mark-w.result)

pub returns : goal.returns
returns c =
    let w = c.widen in
    let m = c.args.m in
    let e = c.args.e in
    let n : w.result.s * w.result.s + w.result.have - w.result.want ≡ m * 2 ^ (e % 2) * 2 ^ 54 = left (w.result.s * w.result.s) w.result.have w.result.want ((m + m * (e % 2)) * 2 ^ 54) w.ensures.0 ∙ ap (λ (y : ℕ). y * 2 ^ 54) (once_or_twice m e) in
    record {
      word = c.mark-w.result;
      is = subst (λ (y : ℕ). Marked y c.mark-w.result) n c.mark-w.ensures;
      bits = ap (λ (y : ℕ). e / 2 * 2 ^ 52 + y) c.to_even.ensures;
    }
