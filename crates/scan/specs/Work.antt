-- Request h in a reader's words: the work of one frame, and the most that it can be.
use Rattle.std.specs.Prelude.{ℕ, ◌≤◌, ◌≡◌, List, length, Float}
use Rattle.std.specs.Float.{binary64}
use Rattle.std.specs.Float.Ieee.{mul, div}
use Rattle.answers.specs.Pick.{pick}
use Rattle.floats.specs.Functions.{zero64, root}
use Rattle.scan.specs.State.{World}
use Rattle.scan.specs.Scoring.{near_energy, segment_energy, lag_product, score_at, live, most_products}
use Rattle.scan.specs.Calls.{observed}
use Rattle.scan.specs.Steps.{score, deed}
use Rattle.scan.specs.Streams.{Accepted}
use Rattle.scan.specs.Banked.{counts, products_in}
use Rattle.scan.specs.declared.Scoring.{Scoring}
use Rattle.scan.specs.declared.Scoring.TheVariants as scoring

-- a score takes its lag's sum exactly if the lag is counted, and else is 0
abbrev pub Formed : Type 0
Formed =
    (levels window : List Float) (k : ℕ)
    → score_at levels window k
    ≡ pick (live window (length levels) k)
    (div binary64 (lag_product levels window k) (root binary64 (mul binary64 (near_energy levels) (segment_energy window (length levels) k))))
    zero64

-- the products that an answer reports; a refusal reports none
abbrev pub reports_products : Scoring → ℕ
reports_products (scoring.Refused number) = 0
reports_products (scoring.Frame f n) = n

-- a frame that counts reports its products, and steps 1 to 4 report 0
abbrev pub ReportsWork : Type 0
ReportsWork =
    (slack : ℕ) (w : World) → Accepted slack w (deed score)
    → reports_products (observed slack w).scored.answer ≡ pick (counts slack w) (products_in slack w) 0

-- no call reports more than (span + 1) x frame
abbrev pub ProductsAtMost : Type 0
ProductsAtMost = (slack : ℕ) (w : World) → reports_products (observed slack w).scored.answer ≤ most_products w.scan.geometry
