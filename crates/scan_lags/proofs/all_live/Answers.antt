-- `scan_lags::all_live` meets its contract. Invariant: none of the first j lags is flat.
use Rattle.std.proofs.Common.{arith, below_more}
use mathlib.Core.Bool.{false≢true}
use Rattle.scan_lags.proofs.all_live.Goals as goal

pub loop-j-init : goal.loop-j-init
loop-j-init c = λ m h. absurd (omega arith)

pub returns-then-energies-k : goal.returns-then-energies-k
returns-then-energies-k c = λ e. absurd (false≢true e)

pub loop-j-preserved : goal.loop-j-preserved
loop-j-preserved c = below_more _ _ c.loop-j.invariant c.if-energies-k.false

pub returns : goal.returns
returns c = λ e m h. c.loop-j.invariant m (omega arith)
