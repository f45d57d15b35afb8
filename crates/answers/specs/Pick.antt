-- The choice that every definition by cases goes by. It is opened by `unfolding pick`; proofs go by the laws below.
use Rattle.std.specs.Prelude.{Bool, true, false, ◌≡◌, refl}
use Rattle.std.proofs.Common.{true≢false}
use Rattle.std.proofs.lemmas.Bool.{false≢true}

unfoldable pub pick : {A : Type 0} → Bool → A → A → A
pick true x y = x
pick false x y = y

abbrev pub both : Bool → Bool → Bool
both a b = pick a b false

abbrev pub either : Bool → Bool → Bool
either a b = pick a true b

-- ---- laws

pub pick_true : {A : Type 0} (t : Bool) (x y : A) → t ≡ true → pick t x y ≡ x
unfolding pick
pick_true true x y e = refl
pick_true false x y e = absurd (false≢true e)

pub pick_false : {A : Type 0} (t : Bool) (x y : A) → t ≡ false → pick t x y ≡ y
unfolding pick
pick_false false x y e = refl
pick_false true x y e = absurd (true≢false e)

-- what holds of both answers holds of the one picked
pub pick_all : {A : Type 0} (P : A → Type 0) (t : Bool) (x y : A) → P x → P y → P (pick t x y)
unfolding pick
pick_all P true x y p q = p
pick_all P false x y p q = q

-- the same, where each answer's part may use the test
pub pick_case : {A : Type 0} (P : A → Type 0) (t : Bool) (x y : A) → (t ≡ true → P x) → (t ≡ false → P y) → P (pick t x y)
unfolding pick
pick_case P true x y p q = p refl
pick_case P false x y p q = q refl
