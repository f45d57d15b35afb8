-- What a verdict tells is the whole verdict: two verdicts that tell the same are the same.
use Prim.Native.Nat.{ℕ, ◌≤◌}
use mathlib.Core.Path.{◌≡◌, refl, sym, ap}
use native.Mathlib.Omega.{arith}
use lib.Dec.{eqb}
use Rattle.answers.specs.Pick.{pick}
use Rattle.units.specs.Units.{samples}
use Rattle.tracker.specs.declared.Trigger.{Trigger}
use Rattle.tracker.specs.declared.Trigger.TheVariants.{Edge, Lost, Jump, Seam}
use Rattle.tracker.specs.declared.Verdict.{Verdict}
use Rattle.tracker.specs.declared.Verdict.TheVariants.{Refused, Hold, Move, Reacquire}
use Rattle.tracker.specs.Told.{trigger_number, hold, reacquire, verdict_told}

-- the trigger of a number
abbrev trigger_of : ℕ → Trigger
trigger_of n = pick (eqb n 3) Edge (pick (eqb n 4) Lost (pick (eqb n 5) Jump Seam))

trigger_back : (x : Trigger) → trigger_of (trigger_number x) ≡ x
unfolding pick
trigger_back Edge = refl
trigger_back Lost = refl
trigger_back Jump = refl
trigger_back Seam = refl

pub trigger_told : (x y : Trigger) → trigger_number x ≡ trigger_number y → x ≡ y
trigger_told x y e = cc (trigger_back x, trigger_back y, ap trigger_of e)

-- `hold` and a move have the numbers before these
beyond : (x : Trigger) → 3 ≤ trigger_number x
beyond Edge = omega arith
beyond Lost = omega arith
beyond Jump = omega arith
beyond Seam = omega arith

pub no_hold : (x : Trigger) → reacquire x ≡ hold → ⊥
no_hold x e = let h : trigger_number x ≡ 1 = cc in omega (arith, h, beyond x)

pub verdict_told_lem : (x y : Verdict) → verdict_told x ≡ verdict_told y → x ≡ y
verdict_told_lem (Refused m) (Refused n) e = cc
verdict_told_lem (Refused m) Hold e = cc
verdict_told_lem (Refused m) (Move n) e = cc
verdict_told_lem (Refused m) (Reacquire n) e = cc
verdict_told_lem Hold (Refused n) e = cc
verdict_told_lem Hold Hold e = refl
verdict_told_lem Hold (Move n) e = cc
verdict_told_lem Hold (Reacquire n) e = absurd (no_hold n (sym e))
verdict_told_lem (Move m) (Refused n) e = cc
verdict_told_lem (Move m) Hold e = cc
verdict_told_lem (Move m) (Move n) e = let h : m.0 ≡ n.0 = cc in ap (λ (k : ℕ). Move (samples k)) h
verdict_told_lem (Move m) (Reacquire n) e = cc
verdict_told_lem (Reacquire m) (Refused n) e = cc
verdict_told_lem (Reacquire m) Hold e = absurd (no_hold m e)
verdict_told_lem (Reacquire m) (Move n) e = cc
verdict_told_lem (Reacquire m) (Reacquire n) e = let h : trigger_number m ≡ trigger_number n = cc in ap Reacquire (trigger_told m n h)
