-- Request h's own figure: no frame of a scan for 48,000 / 500 takes more than 501 x 256 products.
use Rattle.std.specs.Prelude.{ℕ, ◌≤◌, ◌≡◌}
use Rattle.scan.specs.Bins.{geometry_of}
use Rattle.scan.specs.State.{World}
use Rattle.scan.specs.Calls.{observed}
use Rattle.scan.specs.Work.{reports_products}

abbrev pub MostAt48000_500 : Type 0
MostAt48000_500 = (slack : ℕ) (w : World) → w.scan.geometry ≡ geometry_of 48000 500 → reports_products (observed slack w).scored.answer ≤ 128256
