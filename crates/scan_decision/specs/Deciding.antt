-- What the parts of the code say to each other. The rules are crate scan's.
use Rattle.std.specs.Prelude.{◌+◌, ◌*◌, ◌<◌, ◌^◌, List, Float}
use Rattle.scan.specs.Scoring.{Ruling}
use Rattle.scan.specs.declared.Geometry.{Geometry}
use Rattle.scan_decision.specs.declared.Ruled.{Ruled}

-- the answer and the verdict, with the lag sums after them
abbrev pub ruled : Ruled → List Float → Ruling
ruled r lag_sums = record { answer = r.answer; verdict = r.verdict; lag_sums = lag_sums }

-- the ceiling test and a delay in native samples fit 64 bits
pub record Small (g : Geometry) : Type 0 where
  pub guarded : g.span + g.ceiling_guard < 2 ^ 64
  pub native : g.span * g.decimation < 2 ^ 64
