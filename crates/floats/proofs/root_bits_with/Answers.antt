-- `floats::root_bits_with` meets its contract: the zeros, the numbers above 0, the infinity, and what has no root.
use borrow.Author.Rules.{rules}
use native.Mathlib.Omega.{arith}
use Rattle.floats.proofs.RootFields.{root_zero, root_infinity, root_none}
use Rattle.floats.proofs.Laws.{root_bits_meets}
use Rattle.floats.proofs.root_bits_with.Goals as goal

pub returns-then-b-eq0 : goal.returns-then-b-eq0
returns-then-b-eq0 c = root_bits_meets c.args.b _ (root_zero c.args.b (search rules) c.if-b-eq0.true)

pub returns-then-b-lt-INFINITE : goal.returns-then-b-lt-INFINITE
returns-then-b-lt-INFINITE c = root_bits_meets c.args.b _ c.root_size.ensures

pub returns-then-b-eq-INFINITE : goal.returns-then-b-eq-INFINITE
returns-then-b-eq-INFINITE c = root_bits_meets c.args.b _ (root_infinity c.args.b c.if-b-eq-INFINITE.true)

pub returns : goal.returns
returns c = root_bits_meets c.args.b _ (root_none c.args.b (search rules) (omega (arith, c.if-b-eq-INFINITE.false)) c.if-b-eq0.false)
