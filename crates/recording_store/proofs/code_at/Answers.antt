-- `recording_store::code_at` meets its contract, by direction.
use Rattle.recording_store.proofs.code_at.Goals as goal

pub float_at-requires : goal.float_at-requires
float_at-requires c = rw c.in-ToFloats.is at c.requires

pub short_at-requires : goal.short_at-requires
short_at-requires c = rw c.in-ToShorts.is at c.requires

pub returns-in-ToFloats : goal.returns-in-ToFloats
returns-in-ToFloats c = rw c.in-ToFloats.is c.float_at.ensures

pub returns-in-ToShorts : goal.returns-in-ToShorts
returns-in-ToShorts c = rw c.in-ToShorts.is c.short_at.ensures
