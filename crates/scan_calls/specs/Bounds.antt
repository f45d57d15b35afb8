-- How large the numbers of a geometry are, where rate and ceiling are within the table of SPECIFICATION 2.
use Rattle.std.specs.Prelude.{◌*◌, ◌≤◌, ◌<◌}
use Rattle.answers.specs.Numbers.{limit}
use Rattle.scan.specs.declared.Geometry.{Geometry}
use Rattle.scan.specs.declared.Near.{Near}

pub record Bounds (g : Geometry) : Type 0 where
  pub some_decimation : 1 ≤ g.decimation
  pub decimation : g.decimation ≤ 192
  pub some_frame : 1 ≤ g.frame
  pub frame : g.frame ≤ 49152
  pub some_span : 1 ≤ g.span
  pub span : g.span ≤ 768000
  pub ceiling_guard : g.ceiling_guard ≤ 49152
  pub peak_guard : g.peak_guard ≤ 49152

-- a near side whose place in the stream can be computed
pub record Places (g : Geometry) (n : Near) : Type 0 where
  pub some_decimation : 1 ≤ g.decimation
  pub decimation : g.decimation ≤ 192
  pub count : n.count ≤ 192
  pub len : n.len ≤ 49152
  pub start : n.first * g.decimation < limit
