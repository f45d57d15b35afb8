-- The near side as a sample finds it (`held_at`): where a frame goes on, with the index that follows its last one.
use Prim.Native.Nat.{ℕ, ◌+◌, ◌*◌, ◌/◌, ◌%◌}
use mathlib.Core.Path.{◌≡◌, refl, sym, ap, ◌∙◌}
use mathlib.Core.Bool.{true, false, not, true≢false}
use native.Mathlib.Nat.{div-add-mod', add-mul, one-mul}
use native.Mathlib.Omega.{arith}
use lib.Dec.{eqb}
use borrow.Author.Tests.{eqb-true, ne_eqb, not-false}
use Rattle.answers.specs.Pick.{either, pick_true, pick_case}
use Rattle.scan.specs.State.{emptied, full, idle, taken}
use Rattle.scan.specs.Blocks.{on_grid, dropped, hole, held_at, first_bin}
use Rattle.scan.specs.declared.Geometry.{Geometry}
use Rattle.scan.specs.declared.Near.{Near}
use Rattle.scan.proofs.Laws.{either_or, both_and, both_left, both_right}
use Rattle.scan.proofs.Settings.{Allowed, wide}

-- ---- what is held

pub emptied_idle : (n : Near) → idle (emptied n) ≡ true
emptied_idle n = both_and true true refl refl

-- what holds of a near side, where it is under way, holds of what a sample finds
pub held_under_way : (P : Near → Type 0) (n : Near) (index : ℕ) → (idle n ≡ false → P n) → idle (held_at n index) ≡ false → P (held_at n index)
held_under_way P n index p = pick_case (λ (m : Near). idle m ≡ false → P m) (hole n index) (emptied n) n (λ h i. absurd (true≢false (sym (emptied_idle n) ∙ i))) (λ h i. p i)

-- a frame that goes on goes on with the next index
pub held_next : (n : Near) (index : ℕ) → idle (held_at n index) ≡ false → index ≡ (held_at n index).last + 1
held_next n index =
    pick_case (λ (m : Near). idle m ≡ false → index ≡ m.last + 1) (hole n index) (emptied n) n (λ h i. absurd (true≢false (sym (emptied_idle n) ∙ i)))
    (λ h i. eqb-true index (n.last + 1) (not-false (eqb index (n.last + 1)) (sym (pick_true (not (idle n)) _ false (ap not i)) ∙ h)))

-- where none goes on, none was under way or the sample meets a hole
pub held_idle : (n : Near) (index : ℕ) → idle (held_at n index) ≡ true → either (idle n) (hole n index) ≡ true
held_idle n index i =
    pick_case (λ (m : Near). idle m ≡ true → either (idle n) (hole n index) ≡ true) (hole n index) (emptied n) n (λ h j. either_or (idle n) _ (λ k. h)) (λ h j. either_or (idle n) _ (λ k. absurd (true≢false (sym j ∙ k)))) i

pub held_room : (g : Geometry) → Allowed g → (n : Near) (index : ℕ) → full g n ≡ false → full g (held_at n index) ≡ false
held_room g a n index f = pick_case (λ (m : Near). full g m ≡ false) (hole n index) (emptied n) n (λ h. ne_eqb 0 g.frame (omega (arith, wide g a))) (λ h. f)

-- ---- samples stand where their indices say

-- under way, the last index is the place of the last sample
abbrev pub Placed : Geometry → Near → Type 0
Placed g n = idle n ≡ false → n.last + 1 ≡ n.first * g.decimation + taken g n

pub block_placed : (g : Geometry) (n : Near) → n.count + 1 ≡ g.decimation → (n.len + 1) * g.decimation + 0 ≡ taken g n + 1
block_placed g n c = omega (arith, add-mul n.len 1 g.decimation, one-mul g.decimation)

-- a sample that is taken: it begins a frame on the grid, or goes on with one
pub stands : (g : Geometry) (n : Near) (index : ℕ) → Placed g n → (idle n ≡ false → index ≡ n.last + 1) → dropped g n index ≡ false
    → index + 1 ≡ first_bin g n index * g.decimation + (taken g n + 1)
stands g n index p next d =
    pick_case (λ (z : ℕ). index + 1 ≡ z * g.decimation + (taken g n + 1)) (idle n) (index / g.decimation) n.first
    (λ i. omega (arith, div-add-mod' index g.decimation, eqb-true (index % g.decimation) 0 (not-false (on_grid g index) (sym (pick_true (idle n) _ false i) ∙ d)), eqb-true n.count 0 (both_left (eqb n.count 0) _ i), ap (λ (k : ℕ). k * g.decimation) (eqb-true n.len 0 (both_right (eqb n.count 0) _ i))))
    (λ i. omega (arith, p i, next i))
