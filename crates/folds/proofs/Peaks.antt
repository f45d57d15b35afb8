-- Laws of the coarse search: nothing met yet, one value more, all of them.
use Rattle.std.proofs.Common.{◌≡◌, ℕ, suc, Bool, List, [], ◌∷◌, ◌++◌, length, sym, refl, ap, ◌∙◌, append-nil, append_assoc, length-append, add-one, arith}
use lib.Ieee.{Float, lt}
use Rattle.answers.specs.Pick.{pick}
use Rattle.floats.specs.Functions.{zero64}
use Rattle.folds.specs.Search.{peak, meet, down_from}
use Rattle.folds.specs.declared.Peak.{Peak}

-- `rest` is still to come, and p is the answer for what stands behind it
pub record Searched (xs rest : List Float) (p : Peak) : Type 0 where
  pub behind : List Float
  pub splits : xs ≡ rest ++ behind
  pub found : p ≡ down_from behind (length rest)

pub nothing_met : (xs rest : List Float) → rest ≡ xs → Searched xs rest (peak 0 zero64)
unfolding down_from
nothing_met xs rest e = record { behind = []; splits = sym e ∙ sym (append-nil rest); found = refl }

pub one_met : (xs rest new : List Float) (k : ℕ) (x : Float) (p : Peak) (b : Bool) → rest ≡ new ++ (x ∷ []) → k ≡ length new → lt p.value x ≡ b → Searched xs rest p
    → Searched xs new (pick b (peak k x) p)
unfolding down_from
one_met xs rest new k x p b r e t s =
    let long : length rest ≡ suc (length new) = ap length r ∙ length-append new (x ∷ []) ∙ add-one (length new) in
    record {
      behind = x ∷ s.behind;
      splits = s.splits ∙ ap (λ (l : List Float). l ++ s.behind) r ∙ append_assoc new (x ∷ []) s.behind;
      found = rw (← t, e, ← long) (ap (λ (q : Peak). meet q (length new) x) s.found);
    }

pub all_met : (xs rest : List Float) (p : Peak) → length rest ≡ 0 → Searched xs rest p → p ≡ down_from xs 0
all_met xs [] p e s = s.found ∙ ap (λ (l : List Float). down_from l 0) (sym s.splits)
all_met xs (x ∷ rest) p e s = absurd (omega arith)
