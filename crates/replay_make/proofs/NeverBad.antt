-- A recording that is made of two sounds replays to its end: no line of its log begins with `bad`.
use mathlib.Core.Path.{◌≡◌, ap, ◌∙◌}
use mathlib.Core.Bool.{false, not}
use mathlib.Core.List.{List}
use Prim.Native.Nat.{ℕ, ◌^◌, ◌<◌, ◌≤◌}
use lib.ListN.{length}
use Rattle.recording.specs.Samples.{bytes_of}
use Rattle.replay.specs.Log.{log_of}
use Rattle.replay_convert.specs.Bad.{has_bad}
use Rattle.replay_convert.proofs.Structure.{bad_by_structure}
use Rattle.wav.specs.declared.Sound.{Sound}
use Rattle.recording_make.specs.Making.{planned, made}
use Rattle.recording_make.specs.declared.Plan.{Plan}
use Rattle.std.specs.Prelude.{Ok}
use Rattle.recording_make.proofs.Whole.{recorded_whole}

-- The bytes of each side are those of all its samples, and may be more.
pub never_bad : (far near : Sound) (ceiling start : ℕ) (p : Plan) (a b : List ℕ) → far.frames < 2 ^ 32 → near.frames < 2 ^ 32 → planned far near ceiling start ≡ Ok p →
    bytes_of p.header.form p.header.far ≤ length a → bytes_of p.header.form p.header.near ≤ length b →
    has_bad (log_of (made p a b).events (made p a b).far (made p a b).near) ≡ false
never_bad far near ceiling start p a b f n e x y = bad_by_structure (made p a b) ∙ ap not (recorded_whole far near ceiling start p a b f n e x y)
