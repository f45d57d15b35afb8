-- `recording::header_at` meets its contract.
use Rattle.recording.proofs.header_at.Goals as goal

pub returns : goal.returns
returns c = rw (
  ← c.u32_at.ensures,
  ← c.u32_at-2.ensures,
  ← c.u32_at-3.ensures,
  ← c.u32_at-4.ensures,
  ← c.u32_at-5.ensures,
)
