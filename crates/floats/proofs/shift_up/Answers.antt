-- `floats::shift_up` meets its contract: a number whose highest digit is the k-th goes up by 52 - k places.
use Rattle.std.proofs.Common.{◌≡◌, ℕ, ◌+◌, ◌-◌, ◌*◌, ◌%◌, ◌^◌, ◌≤◌, ◌<◌, sym, ap, ◌∙◌, subst, arith, mul_assoc}
use native.Mathlib.Nat.{mul-le-mul_right, mod-eq_of_lt, lt_of_le_of_lt}
use Rattle.std.proofs.Math.Nat.{mul-lt-mul_of_pos_right}
use lib.Pow.{pow_pos, pow-add}
use Rattle.floats.specs.Steps.{Shifted}
use Rattle.floats.proofs.Pattern.{pow_lt_back}
use Rattle.floats.proofs.shift_up.Goals as goal

lifted : (t k z : ℕ) → k + z ≡ 52 → 2 ^ k ≤ t → t < 2 * 2 ^ k → Shifted t (t * 2 ^ z % 2 ^ 64) z
lifted t k z e low high =
    let whole : 2 ^ k * 2 ^ z ≡ 2 ^ 52 = sym (pow-add 2 k z) ∙ ap (λ (y : ℕ). 2 ^ y) e in
    let least : 2 ^ 52 ≤ t * 2 ^ z = subst (λ (y : ℕ). y ≤ t * 2 ^ z) whole (mul-le-mul_right (2 ^ z) low) in
    let most : t * 2 ^ z < 2 * (2 ^ k * 2 ^ z) = subst (λ (y : ℕ). t * 2 ^ z < y) (mul_assoc 2 (2 ^ k) (2 ^ z)) (mul-lt-mul_of_pos_right high (pow_pos z)) in
    let below : t * 2 ^ z < 2 ^ 53 = subst (λ (y : ℕ). t * 2 ^ z < 2 * y) whole most in
    let same : t * 2 ^ z % 2 ^ 64 ≡ t * 2 ^ z = mod-eq_of_lt (omega arith) in
    record {
      few = omega arith;
      at_least = rw same least;
      below = rw same below;
      is = same;
    }

pub overflow_sub-z : goal.overflow_sub-z
overflow_sub-z c = omega (arith, pow_lt_back c.ilog2-z.result 52 (lt_of_le_of_lt c.ilog2-z.ensures.power_le c.requires.1))

pub returns : goal.returns
returns c =
    let k = c.ilog2-z in
    let few = pow_lt_back k.result 52 (lt_of_le_of_lt k.ensures.power_le c.requires.1) in
    rw c.from.ensures (lifted c.args.t k.result (52 - k.result) (omega arith) k.ensures.power_le k.ensures.next_power_gt)
