-- The contracts between the parts of the code, for functions that are not public.
use Rattle.std.specs.Prelude.{ℕ, ◌+◌, ◌*◌, ◌/◌, ◌<◌, ◌≤◌}

-- The first n bytes of a channel are within the frames at hand, and within the room.
pub record Reachable (width frame before n bytes room : ℕ) : Type 0 where
  pub some : 0 < width
  pub inside : before + width ≤ frame
  pub there : (i : ℕ) → i < n → (i / width + 1) * frame ≤ bytes
  pub fits : n ≤ room
