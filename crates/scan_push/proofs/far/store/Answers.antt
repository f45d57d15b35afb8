-- `scan_push::far::store` meets its contract: the slot is below the length.
use native.Mathlib.Nat.{mod-lt}
use Prim.Native.Nat.{◌%◌, ◌<◌}
use lib.ListN.{length}
use borrow.Author.Rules.{rules}
use Rattle.scan_push.proofs.far.store.Goals as goal
use Rattle.scan_push.proofs.far.store.Goals.{After-level_of}

-- the slot is below the length
slot : (c : After-level_of) → c.args.block % length c.args.envelope.now < length c.args.envelope.now
slot c = mod-lt _ c.requires.1

pub offset_bounds-envelope-slot : goal.offset_bounds-envelope-slot
offset_bounds-envelope-slot c = let h = slot c in search rules

pub bounds-envelope-slot : goal.bounds-envelope-slot
bounds-envelope-slot c = slot c

pub returns : goal.returns
returns c = rw c.level_of.ensures
