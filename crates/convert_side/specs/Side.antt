-- A side is in order: its window is one into a room of 65,536 bytes, and what is held for its output is in another.
use Rattle.std.specs.Prelude.{◌≤◌}
use Rattle.pipes.specs.Window.{Within}
use Rattle.convert_side.specs.declared.Side.{Side}

pub record Fits (s : Side) : Type 0 where
  pub input : Within s.input
  pub out : s.out.held ≤ 65536
