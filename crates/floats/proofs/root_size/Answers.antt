-- `floats::root_size` meets its contract, for a normal and for a subnormal argument.
use mathlib.Core.Path.{◌∙◌, sym}
use Prim.Native.Nat.{◌/◌, ◌%◌, ◌^◌}
use native.Mathlib.Omega.{arith}
use Rattle.floats.proofs.RootFields.{root_fields, root_normal, root_subnormal}
use Rattle.floats.proofs.root_size.Goals as goal

pub returns-then-x-gt0 : goal.returns-then-x-gt0
returns-then-x-gt0 c = root_normal (c.args.b / 2 ^ 52) (c.args.b % 2 ^ 52) c.root_scaled.result c.if-x-gt0.true (omega arith) (omega arith) c.root_scaled.ensures ∙ sym (root_fields c.args.b (omega arith))

pub returns : goal.returns
returns c = root_subnormal (c.args.b / 2 ^ 52) (c.args.b % 2 ^ 52) c.shift_up-m.result.m c.shift_up-m.result.z c.root_scaled-2.result (omega arith) (omega arith) c.shift_up-m.ensures c.root_scaled-2.ensures ∙ sym (root_fields c.args.b (omega arith))
