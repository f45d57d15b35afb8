-- `fine_peak::met` meets its contract: a height that is not below the crest is greater, or equal to it.
use Rattle.std.proofs.Common.{◌≡◌, Bool, true, false, ◌||◌, sym, refl, ◌∙◌, true≢false}
use lib.Ieee.{Float, lt, le, eq}
use Rattle.answers.specs.Pick.{pick_true, pick_false}
use Rattle.fine_peak.proofs.met.Goals as goal

other : (a b : Bool) → (a || b) ≡ true → a ≡ false → b ≡ true
other true b e f = absurd (true≢false f)
other false b e f = e

neither : (a b : Bool) → (a || b) ≡ false → (a ≡ false) × (b ≡ false)
neither true b e = absurd (true≢false e)
neither false b e = (refl, e)

module _ (x y : Float) where
  level : le x y ≡ true → lt x y ≡ false → eq x y ≡ true
  unfolding le
  level e l = other (lt x y) (eq x y) e l

  lower : le x y ≡ false → (lt x y ≡ false) × (eq x y ≡ false)
  unfolding le
  lower e = neither (lt x y) (eq x y) e

pub returns-then-height-crest-2 : goal.returns-then-height-crest-2
returns-then-height-crest-2 c = sym (pick_true _ _ _ c.if-height-crest-2.true)

pub returns-then-height-crest : goal.returns-then-height-crest
returns-then-height-crest c = sym (pick_false _ _ _ c.if-height-crest-2.false ∙ pick_true _ _ _ (level _ _ c.if-height-crest.true c.if-height-crest-2.false))

pub returns : goal.returns
returns c =
    let h = lower _ _ c.if-height-crest.false in
    sym (pick_false _ _ _ h.0 ∙ pick_false _ _ _ h.1)
