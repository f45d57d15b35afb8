-- The window as the code reads it, and a length that differs.
use Prim.Native.Nat.{ℕ, ◌+◌, ◌-◌, ◌%◌}
use mathlib.Core.Path.{◌≡◌, sym, ap, ◌∙◌}
use mathlib.Core.Bool.{Bool, false}
use mathlib.Core.List.{List}
use lib.Dec.{ltb, eqb}
use lib.ListN.{length}
use lib.Ieee.{Float}
use borrow.Author.Tests.{ne_eqb}
use Rattle.answers.specs.Pick.{pick, both, pick_false}
use Rattle.floats.specs.Functions.{zero64}
use Rattle.folds.specs.Sums.{table, at}
use Rattle.scan.specs.Bins.{envelope_len, window_len}
use Rattle.scan.specs.Scoring.{window_of}
use Rattle.scan.specs.declared.Geometry.{Geometry}
use Rattle.scan_score.specs.Observing.{bins_from}

-- n bins modulo m
abbrev bins : List Float → ℕ → ℕ → ℕ → ℕ → List Float
bins e next m n start = table (λ i. pick (ltb (start + i) next) (at e ((start + i) % m)) zero64) n

pub window_is : (slack : ℕ) (g : Geometry) (next first : ℕ) (e : List Float) (start n : ℕ) → start ≡ first - g.span → n ≡ window_len g → length e ≡ envelope_len slack g
    → bins_from e next start n ≡ window_of slack g next first e
unfolding window_of
window_is slack g next first e start n s m l =
    ap (bins e next (length e) n) s
    ∙ ap (λ (k : ℕ). bins e next (length e) k (first - g.span)) m
    ∙ ap (λ (k : ℕ). bins e next k (window_len g) (first - g.span)) l

pub unequal : {a b : ℕ} (u : Bool) → (a ≡ b → ⊥) → false ≡ both (eqb a b) u
unequal {a} {b} u h = sym (pick_false (eqb a b) _ _ (ne_eqb a b h))
