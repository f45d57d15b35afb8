-- What a report gives, over the query that it is lent to and what the query's answer tells.
use Prim.Native.Nat.{ℕ}
use mathlib.Core.Path.{◌≡◌, ap, ◌∙◌}
use mathlib.Core.List.{List}
use Rattle.words.specs.Words.{fits}
use Rattle.words.specs.Answers.{number, given}
use Rattle.fine.specs.declared.Fine.{Fine}
use Rattle.fine_words.specs.Layout.{loaded}
use Rattle.face.specs.Face.{Left}
use Rattle.face.proofs.Order.{refused, let_pass, number_is, values_are}
use Rattle.fine_face.specs.Calls.{judged_fine, reported}

-- a report that answers n and leaves vs in the list that it was lent
abbrev Gives : ℕ → List ℕ → Left (Unit {0}) → Type 0
Gives n vs r = (n ≡ r.number) × (vs ≡ r.values)

module _ {A : Type 0} (told : A → List ℕ) (query : Fine → A) (size : ℕ) (ws vs : List ℕ) where
  abbrev report : Left (Unit {0})
  report = reported size ws vs (told (query (loaded ws)))

  pub turned_away : {judge : ℕ} → judge ≡ judged_fine ws (fits size vs) → (judge ≡ 0 → ⊥) → Gives judge vs report
  turned_away e h = let w = refused _ ws vs tt _ _ e h in (number_is w, values_are w)

  pub reports : {judge n : ℕ} {after : List ℕ} {fine : Fine} {answer : A}
      → judge ≡ judged_fine ws (fits size vs)
      → judge ≡ 0
      → fine ≡ loaded ws
      → answer ≡ query fine
      → n ≡ number (told answer)
      → after ≡ given vs (told answer)
      → Gives n after report
  reports e z f a m v =
      let same = ap told (a ∙ ap query f) in
      let p = let_pass _ ws vs tt _ _ e z in
      (m ∙ ap number same ∙ number_is p, v ∙ ap (given vs) same ∙ values_are p)
