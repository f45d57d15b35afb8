-- `scan_handover::part::wants` meets its contract: the products are small.
use Prim.Native.Nat.{◌*◌, ◌≤◌}
use native.Mathlib.Nat.{mul-le-mul}
use native.Mathlib.Omega.{arith}
use Rattle.scan_handover.proofs.Places.{room_left}
use Rattle.scan_handover.proofs.part.wants.Goals as goal
use Rattle.scan_handover.proofs.part.wants.Goals.{Start}

whole : (s : Start) → s.args.g.frame * s.args.g.decimation ≤ 49152 * 192
whole s = mul-le-mul s.requires.bounds.frame s.requires.bounds.decimation

part : (s : Start) → s.args.n.len * s.args.g.decimation ≤ 49152 * 192
part s =
    let few : s.args.n.len ≤ 49152 = omega (arith, s.requires.room, s.requires.bounds.frame) in
    mul-le-mul few s.requires.bounds.decimation

pub overflow_mul-result : goal.overflow_mul-result
overflow_mul-result c = omega (arith, whole c.before)

pub overflow_mul-result-2 : goal.overflow_mul-result-2
overflow_mul-result-2 c = omega (arith, part c.before.before.before)

pub overflow_add-result : goal.overflow_add-result
overflow_add-result c = omega (arith, part c.before.before.before.before, c.requires.partial, c.requires.bounds.decimation)

pub overflow_sub-result : goal.overflow_sub-result
overflow_sub-result c =
    omega (arith, room_left c.args.n.len c.args.n.count c.args.g.decimation c.args.g.frame c.requires.partial c.requires.room)
