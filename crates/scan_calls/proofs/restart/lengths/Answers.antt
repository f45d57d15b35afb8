-- `scan_calls::restart::lengths` meets its contract.
use Rattle.answers.proofs.Cases.{cases}
use Rattle.scan_calls.proofs.restart.lengths.Goals as goal

pub returns-then-envelope-envelope_len : goal.returns-then-envelope-envelope_len
returns-then-envelope-envelope_len c = search (cases, ← c.envelope_len.ensures, ← c.lags.ensures)

pub returns-else-envelope-envelope_len : goal.returns-else-envelope-envelope_len
returns-else-envelope-envelope_len c = search (cases, ← c.envelope_len.ensures)
