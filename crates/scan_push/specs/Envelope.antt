-- What the far envelope holds: at each kept bin the level of exactly that block of the far stream.
use Rattle.std.specs.Prelude.{ℕ, ◌+◌, ◌*◌, ◌%◌, ◌≤◌, ◌<◌, ◌≡◌, List, length, Float}
use Rattle.floats.specs.Functions.{magnitude}
use Rattle.folds.specs.Sums.{upto, at}
use Rattle.scan.specs.Bins.{envelope_len}
use Rattle.scan.specs.State.{new_far}
use Rattle.scan.specs.Blocks.{Heard, hear_all, level_of}
use Rattle.scan.specs.declared.Geometry.{Geometry}

-- Far block j covers samples jD to jD + D - 1. Its level is the f64 sum of absolute values in order, divided by D, narrowed to f32.
abbrev pub level_of_block : Geometry → ℕ → List Float → Float
level_of_block g j stream = level_of g (upto (λ i. magnitude (at stream (j * g.decimation + i))) g.decimation)

-- the far side after a making and the whole stream
abbrev pub far_after : ℕ → Geometry → List Float → List Float → Heard
far_after slack g envelope stream = hear_all slack g (record { far = new_far; envelope = envelope }) stream

-- Block j is written, and not yet overwritten: its level stands at j modulo the envelope length.
abbrev pub HoldsLevels : Type 0
HoldsLevels =
    (slack : ℕ) (g : Geometry) (envelope stream : List Float) (j : ℕ) → 0 < g.decimation → 0 < envelope_len slack g → length envelope ≡ envelope_len slack g
    → j < (far_after slack g envelope stream).far.next → (far_after slack g envelope stream).far.next ≤ j + envelope_len slack g
    → at (far_after slack g envelope stream).envelope (j % envelope_len slack g) ≡ level_of_block g j stream
