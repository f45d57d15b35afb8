-- The bytes of a log: its lines are cut out of them again, with the last newline and without it, and no other bytes have them.
use Prim.Native.Nat.{ℕ, zero, suc}
use mathlib.Core.Path.{◌≡◌, refl, ◌∙◌}
use mathlib.Core.Logic.{◌↔◌, ◌⊎◌}
use mathlib.Core.Bool.{true, false}
use mathlib.Core.List.{List, [], ◌∷◌, ◌++◌, map}
use lib.ListN.{get_or}
use borrow.Author.Tests.{ne_eqb}
use Rattle.answers.specs.Pick.{pick_false}
use Rattle.log_lines.specs.Lines.{text_of}
use Rattle.log_lines.specs.declared.Line.{Line}
use Rattle.log_lines.specs.declared.Line.TheVariants.{Replay, Frame, Cycle, Refused, End, BadHeader, BadEvent, BadTotals}
use Rattle.log_lines.proofs.Theorems.{no_newline}
use Rattle.log_text.specs.Text.{newline, empty, plain, lines_of, joined, AllPlain, NoneEmpty}
use Rattle.log_text.proofs.Text.{lines_back, lines_exactly}

plain_by_place : (t : List ℕ) → ((i : ℕ) → get_or t i 0 ≡ newline → ⊥) → plain t ≡ true
plain_by_place [] h = refl
plain_by_place (c ∷ t) h = pick_false _ _ _ (ne_eqb c newline (h zero)) ∙ plain_by_place t (λ i. h (suc i))

some_text : (l : Line) → empty (text_of l) ≡ false
unfolding text_of
some_text (Replay r c) = refl
some_text (Frame n w) = refl
some_text (Cycle n v) = refl
some_text (Refused e n) = refl
some_text (End f c) = refl
some_text BadHeader = refl
some_text (BadEvent e) = refl
some_text BadTotals = refl

pub texts_plain : (ls : List Line) → AllPlain (map text_of ls)
texts_plain [] = record {}
texts_plain (l ∷ ls) = (plain_by_place (text_of l) (no_newline l), texts_plain ls)

pub texts_some : (ls : List Line) → NoneEmpty (map text_of ls)
texts_some [] = record {}
texts_some (l ∷ ls) = (some_text l, texts_some ls)

-- SPECIFICATION 12: each line ends in one newline
pub log_back : (ls : List Line) → lines_of (joined (map text_of ls)) ≡ map text_of ls
log_back ls = lines_back (map text_of ls) (texts_plain ls)

-- bytes are read as these lines exactly if they are the lines' texts with a newline behind each, the last newline or not
pub log_exactly : (t : List ℕ) (ls : List Line) → (lines_of t ≡ map text_of ls) ↔ ((t ≡ joined (map text_of ls)) ⊎ (t ++ newline ∷ [] ≡ joined (map text_of ls)))
log_exactly t ls = lines_exactly t (map text_of ls) (texts_plain ls) (texts_some ls)
