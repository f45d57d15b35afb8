-- `fine::least_power` meets its contract: a number has one least power of two.
use Prim.Native.Nat.{◌≤◌}
use mathlib.Core.Path.{◌≡◌, ◌∙◌, ap}
use native.Mathlib.Omega.{arith}
use Rattle.fine.specs.State.{least_power}
use Rattle.fine.proofs.Powers.{least_power_lem, capped, next_power}
use Rattle.fine.proofs.least_power.Goals as goal

pub returns : goal.returns
returns c =
    let small : c.min.result ≤ 65536 = omega arith in
    let p = c.next_power_of_two.ensures in
    let e : c.next_power_of_two.result ≡ least_power c.min.result = next_power _ _ small p.power p.lower_bound p.upper_bound in
    let most : least_power c.min.result ≤ 65536 = (least_power_lem _ small).least 16 small in
    (e ∙ (ap least_power c.min.ensures ∙ capped c.args.n), omega (arith, e, most))
