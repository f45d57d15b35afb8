-- What a call gives where the lists that it is lent have their layouts' lengths, and where one has not.
use mathlib.Core.Path.{◌≡◌, sym, ◌∙◌}
use mathlib.Core.Bool.{Bool, true, false}
use Rattle.answers.specs.Pick.{pick, both, pick_true, pick_false}

pub given : {A : Type 0} (t : Bool) (x y z : A) → t ≡ true → z ≡ x → z ≡ pick t x y
given t x y z e p = p ∙ sym (pick_true t x y e)

pub kept : {A : Type 0} (t : Bool) (x y z : A) → t ≡ false → z ≡ y → z ≡ pick t x y
kept t x y z e p = p ∙ sym (pick_false t x y e)

pub both_fit : (a b : Bool) → a ≡ true → b ≡ true → both a b ≡ true
both_fit a b p q = pick_true a b false p ∙ q

pub first_not : (a b : Bool) → a ≡ false → both a b ≡ false
first_not a b p = pick_false a b false p

pub second_not : (a b : Bool) → a ≡ true → b ≡ false → both a b ≡ false
second_not a b p q = pick_true a b false p ∙ q
