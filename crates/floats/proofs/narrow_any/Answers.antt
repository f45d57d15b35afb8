-- `floats::narrow_any` meets its contract: a NaN, and else the narrowed size with the sign before it.
use mathlib.Core.Path.{◌∙◌, sym}
use Prim.Native.Nat.{◌^◌}
use native.Mathlib.Nat.{add_comm, zero-add}
use borrow.Author.Tests.{le-leb, lt-leb}
use mathlib.Core.Bool.{true, false}
use Rattle.floats.proofs.Narrowing.{narrow_nan, narrow_by}
use Rattle.floats.proofs.Laws.{narrow_bits_meets}
use Rattle.floats.proofs.narrow_any.Goals as goal

pub returns-then-size-gt-INFINITE : goal.returns-then-size-gt-INFINITE
returns-then-size-gt-INFINITE c = narrow_bits_meets c.args.b _ (narrow_nan c.args.b c.if-size-gt-INFINITE.true)

pub returns-then-b-lt-SIGN : goal.returns-then-b-lt-SIGN
returns-then-b-lt-SIGN c = narrow_bits_meets c.args.b _ (sym (narrow_by c.args.b c.narrow_size-r.result false (lt-leb _ _ c.if-b-lt-SIGN.true) c.narrow_size-r.ensures.is ∙ zero-add c.narrow_size-r.result))

pub returns : goal.returns
returns c = narrow_bits_meets c.args.b _ (sym (narrow_by c.args.b c.narrow_size-r.result true (le-leb _ _ c.if-b-lt-SIGN.false) c.narrow_size-r.ensures.is ∙ add_comm (2 ^ 31) c.narrow_size-r.result))
