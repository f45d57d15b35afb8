-- Request k: what is said is the text of the verdict, though of a line longer than any of a log only the bytes at hand are held.
use Rattle.std.specs.Prelude.{Option}
use Prim.Native.Nat.{ℕ, ◌<◌}
use mathlib.Core.Path.{◌≡◌, refl, sym, ap, subst, ◌∙◌}
use mathlib.Core.Bool.{Bool}
use mathlib.Core.List.{List, ◌++◌}
use native.Mathlib.Omega.{arith}
use lib.Dec.{ltb, eqb}
use lib.ListN.{length, take, length-append}
use lib.Seq.{length-take-le, take-take, take-length, take-append-le}
use borrow.Author.Tests.{lt-leb, ltb-true}
use Rattle.answers.specs.Pick.{pick_false, pick_case}
use Rattle.log_lines.specs.declared.Line.{Line}
use Rattle.log_lines.specs.Text.{ascii}
use Rattle.log_text.specs.Text.{lines_of}
use Rattle.log_text.specs.Apart.{There, Same, At, front}
use Rattle.log_text.specs.Cut.{longest, first_newline, cut_at, cut_of, Behind, Tells}
use Rattle.log_text.specs.declared.Piece.{Piece}
use Rattle.log_text.specs.declared.Piece.TheVariants as piece
use Rattle.log_text.proofs.Newlines.{cut_tells_lem, long_starts, newline_within}
use Rattle.log_hold.specs.declared.Verdict.TheVariants as verdict
use Rattle.log_text.specs.Shown.{ended, shown_text}
use Rattle.log_says.specs.Says.{place_text, stands_text, should_text, apart_text}
use Rattle.log_says.specs.Calls.{due_side, piece_side, side_at, said_text}

-- two constructors are never equal: `cc` proves this of them
clash : {A : Type 0} → ◌≡◌ {A = ℕ} 0 1 → A
clash z = absurd (omega (arith, z))

-- of two texts with more bytes than a line of a log has, and the same 75 in front, the same is shown
shown_alike : (t u : List ℕ) → longest < length t → longest < length u → take longest t ≡ take longest u → shown_text t ≡ shown_text u
unfolding shown_text
shown_alike t u a b e =
    pick_false _ (t ++ ended) _ (lt-leb (length t) longest a)
    ∙ ap (λ (k : List ℕ). k ++ (ascii " .." ++ ended)) e
    ∙ sym (pick_false _ (u ++ ended) _ (lt-leb (length u) longest b))

long_cut : (n len : ℕ) (e : Bool) → cut_at n len e ≡ piece.Long → longest < n
unfolding cut_at
long_cut n len e h =
    let P : Piece → Type 0 = λ p. p ≡ piece.Long → longest < n in
    pick_case P (ltb longest n) _ _
    (λ t h. ltb-true longest n t)
    (λ t h. pick_case P (ltb n len) _ _
    (λ u h. clash (cc))
    (λ u h. pick_case P e _ _ (λ v h. pick_case P (eqb n 0) _ _ (λ x h. clash (cc)) (λ x h. clash (cc)) h) (λ v h. clash (cc)) h)
    h)
    h

module _ (hand more : List ℕ) (e : Bool) (b : Behind e more) where
  told : (p : Piece) → cut_of hand e ≡ p → Tells hand e more p
  told p c = subst (Tells hand e more) c (cut_tells_lem hand more e b)

  long_side : cut_of hand e ≡ piece.Long → stands_text (There hand) ≡ stands_text (front (lines_of (hand ++ more)))
  unfolding cut_of stands_text
  long_side c =
      let n = first_newline hand in
      let h : longest < n = long_cut n (length hand) e c in
      let size : length (take n hand) ≡ n = length-take-le n hand (newline_within hand) in
      let is = long_starts hand more h in
      let line : List ℕ = take n hand ++ is.0 in
      let same : take longest hand ≡ take longest line =
      sym (take-append-le longest (take n hand) is.0 (omega (arith, h, size)) ∙ take-take longest n hand (omega (arith, h))) in
      ap (λ (t : List ℕ). ascii "stands: " ++ t) (shown_alike hand line (omega (arith, h, newline_within hand)) (omega (arith, h, size, length-append (take n hand) is.0)) same)
      ∙ ap (λ (ls : List (List ℕ)). stands_text (front ls)) (sym is.2)

  side_by : (p : Piece) → cut_of hand e ≡ p → (p ≡ piece.Wants → ⊥) → stands_text (piece_side hand p) ≡ stands_text (front (lines_of (hand ++ more)))
  side_by (piece.Line n) c w = ap (λ (ls : List (List ℕ)). stands_text (front ls)) (sym (told (piece.Line n) c))
  side_by (piece.Last n) c w =
      let is = told (piece.Last n) c in
      let whole : take n hand ≡ hand = ap (λ (j : ℕ). take j hand) is.1 ∙ take-length hand in
      ap (λ (t : List ℕ). stands_text (There t)) whole ∙ ap (λ (ls : List (List ℕ)). stands_text (front ls)) (sym is.0)
  side_by piece.Long c w = long_side c
  side_by piece.Wants c w = absurd (w refl)
  side_by piece.Over c w = ap (λ (ls : List (List ℕ)). stands_text (front ls)) (sym (told piece.Over c))

  -- where the next line of the log is known, what is said of a wrong one is the text of the verdict that names it
  pub wrong_told : (k : ℕ) (d : Option Line) → (cut_of hand e ≡ piece.Wants → ⊥) → said_text k (verdict.Wrong d) hand e ≡ apart_text (At k (front (lines_of (hand ++ more))) (due_side d))
  unfolding said_text apart_text side_at
  wrong_told k d w = ap (λ (t : List ℕ). place_text k ++ t ++ should_text (due_side d)) (side_by (cut_of hand e) refl w)

pub accepted_told : (k : ℕ) (hand : List ℕ) (e : Bool) → said_text k verdict.Accepted hand e ≡ apart_text Same
unfolding said_text
accepted_told k hand e = refl
