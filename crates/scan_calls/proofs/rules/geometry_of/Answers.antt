-- `scan_calls::rules::geometry_of` meets its contract: field by field.
use Prim.Native.Nat.{◌/◌, ◌^◌, ◌<◌, max}
use mathlib.Core.Path.{◌≡◌, ◌∙◌}
use native.Mathlib.Nat.{div-le_self}
use Rattle.std.proofs.Math.Nat.{max_comm}
use native.Mathlib.Omega.{arith}
use Rattle.scan.specs.Bins.{geometry_of, decimation_of}
use Rattle.scan_calls.proofs.rules.geometry_of.Goals as goal
use Rattle.scan_calls.proofs.rules.geometry_of.Goals.{After-max-bin_rate}

-- at most the rate, or 1
bin-rate-small : (c : After-max-bin_rate) → c.max-bin_rate.result < 2 ^ 32
bin-rate-small c =
    let h = div-le_self c.args.rate c.max-decimation.result in
    omega (arith, h, c.max-bin_rate.ensures, c.ranges.rate)

pub in_bins-requires : goal.in_bins-requires
in_bins-requires c = bin-rate-small (c)

pub in_bins-requires-2 : goal.in_bins-requires-2
in_bins-requires-2 c = bin-rate-small c.before

pub in_bins-requires-3 : goal.in_bins-requires-3
in_bins-requires-3 c = bin-rate-small c.before.before

pub in_bins-requires-4 : goal.in_bins-requires-4
in_bins-requires-4 c = bin-rate-small c.before.before.before

pub returns : goal.returns
unfolding geometry_of
returns c =
    let d : c.max-decimation.result ≡ decimation_of c.args.rate = c.max-decimation.ensures ∙ max_comm _ _ in
    let b : c.max-bin_rate.result ≡ max 1 (c.args.rate / c.max-decimation.result) = c.max-bin_rate.ensures ∙ max_comm _ _ in
    record { is = cc; small = (c.in_bins-2.ensures.small, c.in_bins.ensures.small) }
