-- The most products at 48,000 / 500: the bound of any frame, computed there.
use Prim.Native.Nat.{◌≤◌}
use mathlib.Core.Path.{subst}
use Rattle.scan.specs.Bins.{geometry_of}
use Rattle.scan.specs.Calls.{observed}
use Rattle.scan.specs.Scoring.{most_products}
use Rattle.scan.specs.Work.{reports_products}
use Rattle.scan.specs.declared.Geometry.{Geometry}
use Rattle.scan.proofs.Work.{products_at_most}
use Rattle.rows.specs.Most.{MostAt48000_500}

pub most_at_48000_500 : MostAt48000_500
unfolding geometry_of
most_at_48000_500 slack w e = subst (λ (g : Geometry). reports_products (observed slack w).scored.answer ≤ most_products g) e (products_at_most slack w)
