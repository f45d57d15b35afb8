-- One line of a log held against the next that should come: what it says of the first place where the two differ.
use Rattle.std.specs.Prelude.{Some, None}
use Prim.Native.Nat.{ℕ, suc, ◌+◌, ◌<◌}
use native.Mathlib.Omega.{arith}
use mathlib.Core.Path.{◌≡◌, refl, sym, ap, subst, ◌∙◌}
use mathlib.Core.Bool.{Bool, true, false}
use mathlib.Core.List.{List, [], ◌∷◌, ◌++◌}
use lib.Dec.{ltb}
use lib.ListN.{length, take, drop}
use lib.Seq.{take-length, drop-length}
use Rattle.answers.specs.Pick.{pick, pick_true, pick_false, pick_case}
use Rattle.log_lines.specs.Lines.{text_of}
use Rattle.log_lines.specs.declared.Line.{Line}
use Rattle.log_lines.proofs.Answers.{line_short}
use Rattle.log_text.specs.Text.{same_text, split_into, lines_of}
use Rattle.log_text.specs.Apart.{Nothing, There, Same, At, first_apart, front}
use Rattle.log_text.specs.Cut.{longest, first_newline, cut_at, cut_of, Behind, Tells}
use Rattle.log_text.specs.declared.Piece.{Piece}
use Rattle.log_text.specs.declared.Piece.TheVariants as piece
use Rattle.log_text.proofs.Text.{same_texts}
use Rattle.log_text.proofs.Newlines.{cut_tells_lem}
use Rattle.log_hold.specs.Held.{standing, held}
use Rattle.log_hold.specs.declared.Stands.{Stands}
use Rattle.log_hold.specs.declared.Stands.TheVariants.{Right, Wrong, Over}

-- two constructors are never equal: `cc` proves this of them
clash : {A : Type 0} → ◌≡◌ {A = ℕ} 0 1 → A
clash z = absurd (omega (arith, z))

longer_differs : (line : List ℕ) (l : Line) → longest < length line → same_text line (text_of l) ≡ false
longer_differs line l h = no (same_text line (text_of l)) refl
  where
    no : (b : Bool) → same_text line (text_of l) ≡ b → same_text line (text_of l) ≡ false
    no true e = absurd (omega (arith, h, line_short l, ap length (same_texts line (text_of l) e)))
    no false e = e

last_ended : (n len k : ℕ) (ended : Bool) → cut_at n len ended ≡ piece.Last k → ended ≡ true
unfolding cut_at
last_ended n len k true e = refl
last_ended n len k false e =
    let P : Piece → Type 0 = λ p. p ≡ piece.Last k → false ≡ true in
    pick_case P (ltb longest n) _ _ (λ t e. clash (cc))
    (λ t e. pick_case P (ltb n len) _ _ (λ u e. clash (cc)) (λ u e. let w : piece.Wants ≡ piece.Last k = sym (pick_false false _ _ refl) ∙ e in clash (cc)) e)
    e

-- nothing comes behind a last line
last_all : (hand more : List ℕ) (ended : Bool) (k : ℕ) → Behind ended more → cut_of hand ended ≡ piece.Last k → more ≡ []
unfolding cut_of
last_all hand more ended k b e = subst (λ (z : Bool). Behind z more) (last_ended (first_newline hand) (length hand) k ended e) b

no_lines_lem : lines_of [] ≡ []
unfolding lines_of split_into pick
no_lines_lem = refl

module _ (hand more : List ℕ) (ended : Bool) (b : Behind ended more) (k : ℕ) where
  abbrev lines : List (List ℕ)
  lines = lines_of (hand ++ more)

  told : (p : Piece) → cut_of hand ended ≡ p → Tells hand ended more p
  told p e = subst (Tells hand ended more) e (cut_tells_lem hand more ended b)

  -- the lines are the same here, and the rest is to be compared
  module _ (l : Line) (ls : List (List ℕ)) where
    same_here : (x : List ℕ) (xs : List (List ℕ)) → lines ≡ x ∷ xs → same_text x (text_of l) ≡ true → first_apart k lines (text_of l ∷ ls) ≡ first_apart (k + 1) xs ls
    unfolding first_apart
    same_here x xs e s = ap (λ (z : List (List ℕ)). first_apart k z (text_of l ∷ ls)) e ∙ pick_true _ _ _ s

    differ_here : (x : List ℕ) (xs : List (List ℕ)) → lines ≡ x ∷ xs → same_text x (text_of l) ≡ false → first_apart k lines (text_of l ∷ ls) ≡ At k (front lines) (There (text_of l))
    unfolding first_apart
    differ_here x xs e s = subst (λ (z : List (List ℕ)). first_apart k z (text_of l ∷ ls) ≡ At k (front z) (There (text_of l))) (sym e) (pick_false _ _ _ s)

    right_by : (n : ℕ) (p : Piece) → cut_of hand ended ≡ p → standing (Some l) hand p ≡ Right n → first_apart k lines (text_of l ∷ ls) ≡ first_apart (k + 1) (lines_of (drop n hand ++ more)) ls
    right_by n (piece.Line m) c e =
        pick_case (λ (s : Stands). s ≡ Right n → first_apart k lines (text_of l ∷ ls) ≡ first_apart (k + 1) (lines_of (drop n hand ++ more)) ls) (same_text (take m hand) (text_of l)) _ _
        (λ t e. let size : m + 1 ≡ n = cc in
        let next : suc m ≡ n = omega (arith, size) in
        same_here (take m hand) (lines_of (drop (suc m) hand ++ more)) (told (piece.Line m) c) t ∙ ap (λ (j : ℕ). first_apart (k + 1) (lines_of (drop j hand ++ more)) ls) next)
        (λ t e. clash (cc))
        e
    right_by n (piece.Last m) c e =
        pick_case (λ (s : Stands). s ≡ Right n → first_apart k lines (text_of l ∷ ls) ≡ first_apart (k + 1) (lines_of (drop n hand ++ more)) ls) (same_text (take m hand) (text_of l)) _ _
        (λ t e. let size : m ≡ n = cc in
        let is = told (piece.Last m) c in
        let whole : take m hand ≡ hand = ap (λ (j : ℕ). take j hand) is.1 ∙ take-length hand in
        let nothing : drop n hand ++ more ≡ [] = ap (λ (j : ℕ). drop j hand ++ more) (sym size ∙ is.1) ∙ ap (λ (z : List ℕ). z ++ more) (drop-length hand) ∙ last_all hand more ended m b c in
        same_here hand [] is.0 (ap (λ (z : List ℕ). same_text z (text_of l)) (sym whole) ∙ t) ∙ ap (λ (z : List (List ℕ)). first_apart (k + 1) z ls) (sym (ap lines_of nothing ∙ no_lines_lem)))
        (λ t e. clash (cc))
        e
    right_by n piece.Long c e = clash (cc)
    right_by n piece.Wants c e = clash (cc)
    right_by n piece.Over c e = clash (cc)

    wrong_by : (p : Piece) → cut_of hand ended ≡ p → standing (Some l) hand p ≡ Wrong → first_apart k lines (text_of l ∷ ls) ≡ At k (front lines) (There (text_of l))
    unfolding first_apart
    wrong_by (piece.Line m) c e =
        pick_case (λ (s : Stands). s ≡ Wrong → first_apart k lines (text_of l ∷ ls) ≡ At k (front lines) (There (text_of l))) (same_text (take m hand) (text_of l)) _ _
        (λ t e. clash (cc))
        (λ t e. differ_here (take m hand) (lines_of (drop (suc m) hand ++ more)) (told (piece.Line m) c) t)
        e
    wrong_by (piece.Last m) c e =
        pick_case (λ (s : Stands). s ≡ Wrong → first_apart k lines (text_of l ∷ ls) ≡ At k (front lines) (There (text_of l))) (same_text (take m hand) (text_of l)) _ _
        (λ t e. clash (cc))
        (λ t e. let is = told (piece.Last m) c in
        let whole : take m hand ≡ hand = ap (λ (j : ℕ). take j hand) is.1 ∙ take-length hand in
        differ_here hand [] is.0 (ap (λ (z : List ℕ). same_text z (text_of l)) (sym whole) ∙ t))
        e
    wrong_by piece.Long c e = let is = told piece.Long c in differ_here is.line is.others is.parts (longer_differs is.line l is.long)
    wrong_by piece.Wants c e = clash (cc)
    wrong_by piece.Over c e = subst (λ (z : List (List ℕ)). first_apart k z (text_of l ∷ ls) ≡ At k (front z) (There (text_of l))) (sym (told piece.Over c)) refl

    pub right_step : (n : ℕ) → held (Some l) hand ended ≡ Right n → first_apart k lines (text_of l ∷ ls) ≡ first_apart (k + 1) (lines_of (drop n hand ++ more)) ls
    unfolding held
    right_step n e = right_by n (cut_of hand ended) refl e

    pub wrong_step : held (Some l) hand ended ≡ Wrong → first_apart k lines (text_of l ∷ ls) ≡ At k (front lines) (There (text_of l))
    unfolding held
    wrong_step e = wrong_by (cut_of hand ended) refl e

  -- nothing should come any more
  more_here : (x : List ℕ) (xs : List (List ℕ)) → lines ≡ x ∷ xs → first_apart k lines [] ≡ At k (front lines) Nothing
  unfolding first_apart
  more_here x xs e = subst (λ (z : List (List ℕ)). first_apart k z [] ≡ At k (front z) Nothing) (sym e) refl

  extra_by : (p : Piece) → cut_of hand ended ≡ p → standing None hand p ≡ Wrong → first_apart k lines [] ≡ At k (front lines) Nothing
  extra_by (piece.Line m) c e = more_here (take m hand) (lines_of (drop (suc m) hand ++ more)) (told (piece.Line m) c)
  extra_by (piece.Last m) c e = more_here hand [] (told (piece.Last m) c).0
  extra_by piece.Long c e = let is = told piece.Long c in more_here is.line is.others is.parts
  extra_by piece.Wants c e = clash (cc)
  extra_by piece.Over c e = clash (cc)

  over_by : (p : Piece) → cut_of hand ended ≡ p → standing None hand p ≡ Over → first_apart k lines [] ≡ Same
  unfolding first_apart
  over_by (piece.Line m) c e = clash (cc)
  over_by (piece.Last m) c e = clash (cc)
  over_by piece.Long c e = clash (cc)
  over_by piece.Wants c e = clash (cc)
  over_by piece.Over c e = ap (λ (z : List (List ℕ)). first_apart k z []) (told piece.Over c)

  pub extra_step : held None hand ended ≡ Wrong → first_apart k lines [] ≡ At k (front lines) Nothing
  unfolding held
  extra_step e = extra_by (cut_of hand ended) refl e

  pub over_step : held None hand ended ≡ Over → first_apart k lines [] ≡ Same
  unfolding held
  over_step e = over_by (cut_of hand ended) refl e
