-- What is known of a call of a channel that the face lets pass, and how the settings are judged from the words of channel 0, which stand behind the common part.
use Prim.Native.Nat.{ℕ}
use mathlib.Core.Path.{◌≡◌, sym, ap, ◌∙◌}
use mathlib.Core.Bool.{Bool}
use mathlib.Core.List.{List}
use lib.Dec.{ltb}
use lib.ListN.{length}
use borrow.Author.Tests.{eq-eqb}
use Rattle.answers.specs.Pick.{pick_true}
use Rattle.answers.proofs.Refusals.{passed}
use Rattle.words.specs.Words.{word, half, fits}
use Rattle.scan.specs.Bins.{in_table}
use Rattle.scan_words.specs.Layout.{loaded_geometry}
use Rattle.scan_pair.specs.State.{Side, side_of}
use Rattle.scan_pair.proofs.Channels.{side_zero}
use Rattle.scan_pair_words.specs.Layout.{pair_words, words_of, loaded_pair}
use Rattle.face.specs.Face.{setting_first, judged}
use Rattle.face.proofs.Order.{state_fits, values_fit}
use Rattle.scan_pair_face.specs.Calls.{judged_pair, judged_on}

pub on_state_fits : (c : ℕ) (ws : List ℕ) (valuesFit : Bool) → judged_on c ws valuesFit ≡ 0 → length ws ≡ pair_words
unfolding judged_on
on_state_fits c ws valuesFit e = state_fits pair_words ws _ valuesFit (passed (ltb c 2) 10 _ e).1

pub on_values_fit : (c : ℕ) (ws : List ℕ) (n : ℕ) (vs : List ℕ) → judged_on c ws (fits n vs) ≡ 0 → length vs ≡ n
unfolding judged_on
on_values_fit c ws n vs e = values_fit _ _ n vs (passed (ltb c 2) 10 _ e).1

pub judged_by : (ws : List ℕ) (valuesFit : Bool) → length ws ≡ pair_words → {own : List ℕ} → own ≡ words_of (side_of 0) ws
    → setting_first (in_table (half (word own 0) 0) (half (word own 1) 0)) valuesFit ≡ judged_pair ws valuesFit
unfolding judged loaded_pair loaded_geometry
judged_by ws valuesFit l e =
    ap (λ (z : List ℕ). setting_first (in_table (half (word z 0) 0) (half (word z 1) 0)) valuesFit) (e ∙ ap (λ (d : Side). words_of d ws) side_zero) ∙ sym (pick_true _ _ _ (eq-eqb _ _ l))
