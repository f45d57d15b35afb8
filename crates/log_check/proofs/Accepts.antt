-- What the verdict says: `Same` exactly for the bytes of the log, the last newline or not; else the first wrong line.
use Prim.Native.Nat.{ℕ, zero, suc}
use mathlib.Core.Path.{◌≡◌, refl, ap, subst, ◌∙◌}
use mathlib.Core.Logic.Iff
use mathlib.Core.Logic.{◌↔◌, ◌⊎◌}
use mathlib.Core.Bool.{true, false}
use mathlib.Core.List.{List, [], ◌∷◌, ◌++◌, map}
use lib.ListN.{get_or}
use borrow.Author.Tests.{ne_eqb}
use Rattle.answers.specs.Pick.{pick_false}
use Rattle.log_lines.specs.Lines.{text_of}
use Rattle.log_lines.specs.declared.Line.{Line}
use Rattle.log_lines.specs.declared.Line.TheVariants.{Replay, Frame, Cycle, Refused, End, BadHeader, BadEvent, BadTotals}
use Rattle.log_lines.proofs.Theorems.{no_newline}
use Rattle.log_text.specs.Text.{newline, empty, plain, lines_of, joined, AllPlain, NoneEmpty}
use Rattle.log_text.specs.Apart.{Side, Same, At, FirstWrong}
use Rattle.log_text.proofs.Text.{lines_exactly}
use Rattle.log_text.proofs.Apart.{same_exactly}
use Rattle.log_text.proofs.Apart as lists
use Rattle.replay.specs.Log.{log_of, log_text}
use Rattle.log_check.specs.Checked.{checked}

plain_by_place : (t : List ℕ) → ((i : ℕ) → get_or t i 0 ≡ newline → ⊥) → plain t ≡ true
plain_by_place [] h = refl
plain_by_place (c ∷ t) h = pick_false _ _ _ (ne_eqb c newline (h zero)) ∙ plain_by_place t (λ i. h (suc i))

some_text : (l : Line) → empty (text_of l) ≡ false
unfolding text_of
some_text (Replay r c) = refl
some_text (Frame n w) = refl
some_text (Cycle n v) = refl
some_text (Refused e n) = refl
some_text (End f c) = refl
some_text BadHeader = refl
some_text (BadEvent e) = refl
some_text BadTotals = refl

texts_plain : (ls : List Line) → AllPlain (map text_of ls)
texts_plain [] = record {}
texts_plain (l ∷ ls) = (plain_by_place (text_of l) (no_newline l), texts_plain ls)

texts_some : (ls : List Line) → NoneEmpty (map text_of ls)
texts_some [] = record {}
texts_some (l ∷ ls) = (some_text l, texts_some ls)

-- a log's text is its lines joined
text_joined : (ls : List Line) → joined (map text_of ls) ≡ log_text ls
unfolding joined log_text
text_joined [] = refl
text_joined (l ∷ ls) = ap (λ (t : List ℕ). text_of l ++ newline ∷ t) (text_joined ls)

module _ (events far near log : List ℕ) where
  -- "A log is accepted exactly if it is the log": its bytes are the log's text, with the last newline or without it
  pub accepts : (checked events far near log ≡ Same) ↔ ((log ≡ log_text (log_of events far near)) ⊎ (log ++ newline ∷ [] ≡ log_text (log_of events far near)))
  unfolding checked
  accepts =
      let ls = log_of events far near in
      subst (λ (t : List ℕ). (checked events far near log ≡ Same) ↔ ((log ≡ t) ⊎ (log ++ newline ∷ [] ≡ t))) (text_joined ls)
      (Iff.trans (same_exactly 1 (lines_of log) (map text_of ls)) (lines_exactly log (map text_of ls) (texts_plain ls) (texts_some ls)))

  -- "name the first wrong line and the line that should stand there"
  pub first_wrong : (k : ℕ) (x y : Side) → checked events far near log ≡ At k x y → FirstWrong 1 (lines_of log) (map text_of (log_of events far near)) k x y
  unfolding checked
  first_wrong k x y e = lists.first_wrong 1 (lines_of log) (map text_of (log_of events far near)) k x y e
