-- What the functions behind a run leave.
use Rattle.std.specs.Prelude.{ℕ, ◌+◌}
use Rattle.fine.specs.State.{with_frames}
use Rattle.fine.specs.declared.Fine.{Fine}

-- The state with n samples more in its frame.
abbrev pub longer_by : Fine → ℕ → Fine
longer_by s n = with_frames s (record { len = s.frames.len + n; retained = s.frames.retained; taken = s.frames.taken; skipped = s.frames.skipped })
