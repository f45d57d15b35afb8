-- A line of the log beside the line that should stand there.
use Rattle.std.specs.Prelude.{Option, Some, None}
use Prim.Native.Nat.{ℕ, ◌≤◌, ◌<◌}
use native.Mathlib.Omega.{arith}
use mathlib.Core.Path.{◌≡◌, refl, sym, ap, subst, ◌∙◌}
use mathlib.Core.Bool.{Bool, true, false, false≢true}
use mathlib.Core.List.{List, []}
use lib.Dec.{ltb, eqb}
use lib.ListN.{length, take}
use lib.Seq.{take-append_seam}
use borrow.Author.Tests.{leb-false, ltb-true, eqb-false}
use Rattle.answers.specs.Pick.{pick, pick_true, pick_false, pick_case}
use Rattle.log_lines.specs.Lines.{text_of}
use Rattle.log_lines.specs.Calls.{fits_into, written, written_out}
use Rattle.log_lines.specs.declared.Line.{Line}
use Rattle.log_lines.proofs.Answers.{line_short}
use Rattle.log_text.specs.Text.{same_text}
use Rattle.log_text.specs.Cut.{longest, first_newline, cut_at, cut_of, Tells}
use Rattle.log_text.specs.declared.Piece.{Piece}
use Rattle.log_text.specs.declared.Piece.TheVariants as piece
use Rattle.log_text.proofs.Newlines.{cut_tells_lem}
use Rattle.log_hold.specs.Held.{standing, held, wanting}
use Rattle.log_hold.specs.declared.Stands.{Stands}
use Rattle.log_hold.specs.declared.Stands.TheVariants.{Right, Wrong}

-- two constructors are never equal: `cc` proves this of them
clash : {A : Type 0} → ◌≡◌ {A = ℕ} 0 1 → A
clash z = absurd (omega (arith, z))

-- ---- a line written into 75 bytes

module _ (l : Line) (out : List ℕ) (room : length out ≡ 75) where
  fits : fits_into l out ≡ true
  fits = yes (fits_into l out) refl
    where
      yes : (b : Bool) → fits_into l out ≡ b → fits_into l out ≡ true
      yes true e = e
      yes false e = absurd (omega (arith, line_short l, room, leb-false (length (text_of l)) (length out) e))

  pub finds_room : {w : Option ℕ} → w ≡ None → w ≡ written l out → ⊥
  unfolding written
  finds_room {w} n e = let b : None ≡ Some (length (text_of l)) = sym n ∙ e ∙ pick_true _ _ _ fits in clash (cc)

  pub written_size : {n : ℕ} {w : Option ℕ} → w ≡ Some n → w ≡ written l out → n ≡ length (text_of l)
  unfolding written
  written_size {n} {w} b e = let s : Some n ≡ Some (length (text_of l)) = sym b ∙ e ∙ pick_true _ _ _ fits in cc

  pub written_text : {n : ℕ} {w : Option ℕ} {out' : List ℕ} → w ≡ Some n → w ≡ written l out → out' ≡ written_out l out → take n out' ≡ text_of l
  unfolding written_out
  written_text {n} {w} {out'} b e o =
      ap (λ (k : ℕ). take k out') (written_size b e)
      ∙ ap (λ (z : List ℕ). take (length (text_of l)) z) (o ∙ pick_true _ _ _ fits)
      ∙ take-append_seam (text_of l) _

-- ---- the line that is cut lies within the bytes at hand

line_within : (n len k : ℕ) (ended : Bool) → cut_at n len ended ≡ piece.Line k → k < len
unfolding cut_at
line_within n len k ended e =
    let P : Piece → Type 0 = λ p. p ≡ piece.Line k → k < len in
    pick_case P (ltb longest n) _ _
    (λ t e. clash (cc))
    (λ t e. pick_case P (ltb n len) _ _
    (λ u e. let same : n ≡ k = cc in omega (arith, same, ltb-true n len u))
    (λ u e. pick_case P ended _ _ (λ v e. pick_case P (eqb n 0) _ _ (λ x e. clash (cc)) (λ x e. clash (cc)) e) (λ v e. clash (cc)) e)
    e)
    e

pub cut_line_within : (bytes : List ℕ) (ended : Bool) {n : ℕ} {p : Piece} → p ≡ piece.Line n → p ≡ cut_of bytes ended → n < length bytes
unfolding cut_of
cut_line_within bytes ended {n} a b = line_within (first_newline bytes) (length bytes) n ended (sym b ∙ a)

last_ended : (n len k : ℕ) → cut_at n len false ≡ piece.Last k → ⊥
unfolding cut_at
last_ended n len k e =
    let P : Piece → Type 0 = λ p. p ≡ piece.Last k → ⊥ in
    pick_case P (ltb longest n) _ _ (λ t e. clash (cc))
    (λ t e. pick_case P (ltb n len) _ _ (λ u e. clash (cc)) (λ u e. let w : piece.Wants ≡ piece.Last k = sym (pick_false false _ _ refl) ∙ e in clash (cc)) e)
    e

pub cut_last_whole : (bytes : List ℕ) (n : ℕ) (ended : Bool) → cut_of bytes ended ≡ piece.Last n → n ≡ length bytes
unfolding cut_of
cut_last_whole bytes n true e = (subst (Tells bytes true []) e (cut_tells_lem bytes [] true refl)).1
cut_last_whole bytes n false e = absurd (last_ended (first_newline bytes) (length bytes) n e)

pub cut_last_within : (bytes : List ℕ) (ended : Bool) {n : ℕ} {p : Piece} → p ≡ piece.Last n → p ≡ cut_of bytes ended → n ≤ length bytes
cut_last_within bytes ended {n} a b = let z = cut_last_whole bytes n ended (sym b ∙ a) in omega (arith, z)

-- ---- what is held

pub held_by : (d : Option Line) (hand : List ℕ) (ended : Bool) {p q : Piece} → p ≡ q → p ≡ cut_of hand ended → standing d hand q ≡ held d hand ended
unfolding held
held_by d hand ended e c = ap (standing d hand) (sym e ∙ c)

pub held_line : (l : Line) (hand text : List ℕ) (ended same : Bool) (k : ℕ) {p q : Piece} {r : Stands} → p ≡ q → p ≡ cut_of hand ended → same ≡ same_text text (text_of l) → r ≡ pick same (Right k) Wrong
    → pick (same_text text (text_of l)) (Right k) Wrong ≡ standing (Some l) hand q → r ≡ held (Some l) hand ended
held_line l hand text ended same k e c s r is = r ∙ ap (λ (b : Bool). pick b (Right k) Wrong) s ∙ is ∙ held_by (Some l) hand ended e c

-- more is wanted only where more may come
wants_cut : (d : Option Line) (hand : List ℕ) (p : Piece) → wanting (standing d hand p) ≡ true → p ≡ piece.Wants
wants_cut (Some l) hand (piece.Line n) e = pick_case (λ (s : Stands). wanting s ≡ true → piece.Line n ≡ piece.Wants) (same_text (take n hand) (text_of l)) _ _ (λ t e. absurd (false≢true e)) (λ t e. absurd (false≢true e)) e
wants_cut (Some l) hand (piece.Last n) e = pick_case (λ (s : Stands). wanting s ≡ true → piece.Last n ≡ piece.Wants) (same_text (take n hand) (text_of l)) _ _ (λ t e. absurd (false≢true e)) (λ t e. absurd (false≢true e)) e
wants_cut (Some l) hand piece.Long e = absurd (false≢true e)
wants_cut (Some l) hand piece.Wants e = refl
wants_cut (Some l) hand piece.Over e = absurd (false≢true e)
wants_cut None hand (piece.Line n) e = absurd (false≢true e)
wants_cut None hand (piece.Last n) e = absurd (false≢true e)
wants_cut None hand piece.Long e = absurd (false≢true e)
wants_cut None hand piece.Wants e = refl
wants_cut None hand piece.Over e = absurd (false≢true e)

cut_wants : (hand : List ℕ) (ended : Bool) → cut_of hand ended ≡ piece.Wants → ended ≡ false
cut_wants hand false e = refl
cut_wants hand true e = (subst (Tells hand true []) e (cut_tells_lem hand [] true refl)).0

pub wants_more : (d : Option Line) (hand : List ℕ) (left : ℕ) → wanting (held d hand (eqb left 0)) ≡ true → 0 < left
unfolding held
wants_more d hand left e =
    let some : left ≡ 0 → ⊥ = eqb-false left 0 (cut_wants hand (eqb left 0) (wants_cut d hand (cut_of hand (eqb left 0)) e)) in
    positive left some
  where
    positive : (n : ℕ) → (n ≡ 0 → ⊥) → 0 < n
    positive n h = omega (arith, h)
