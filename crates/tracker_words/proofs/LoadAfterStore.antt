-- What is stored loads again: `load_after_store`.
use Rattle.std.specs.Prelude.{Option, None, Some}
use Prim.Native.Nat.{ℕ}
use mathlib.Core.Path.{◌≡◌, refl, ◌∙◌}
use mathlib.Core.Bool.{true}
use mathlib.Core.List.{List}
use lib.Dec.{ltb}
use borrow.Author.Tests.{lt-ltb}
use Rattle.answers.specs.Pick.{pick, pick_true}
use Rattle.words.specs.Words.{word}
use Rattle.words.proofs.Back.{half_small, flag_reads, flag_case, all_below_lem}
use Rattle.units.specs.declared.Samples.{Samples}
use Rattle.tracker.specs.declared.Tracker.{Tracker}
use Rattle.tracker_words.specs.Layout.{loaded_bands, loaded_delay, are_cases, loaded_pending, loaded, delay_flag, delay_word, stored}
use Rattle.tracker_words.specs.Fitting.{Fits, LoadsAfterStore}

delay_case : (d : Option Samples) → ltb (delay_flag d) 2 ≡ true
delay_case None = refl
delay_case (Some d) = refl

delay_back : (old : ℕ) (d : Option Samples) → loaded_delay (delay_flag d) (delay_word old d) ≡ d
unfolding loaded_delay pick
delay_back old None = refl
delay_back old (Some d) = refl

module _ (ws : List ℕ) (t : Tracker) (h : Fits t) where
  cases_hold : are_cases (stored ws t) ≡ true
  unfolding are_cases stored
  cases_hold =
      pick_true _ _ _ (all_below_lem _ _ _ _ (delay_case t.pending) (delay_case t.prev) (flag_case t.suspect))
      ∙ (pick_true _ _ _ (all_below_lem _ _ _ _ (lt-ltb _ _ h.edges) (lt-ltb _ _ h.jumps) (lt-ltb _ _ h.unconfident))
      ∙ lt-ltb _ _ h.largest)

  pending_back : loaded_pending (stored ws t) ≡ t.pending
  unfolding loaded_pending stored
  pending_back = pick_true _ _ _ cases_hold ∙ delay_back (word ws 7) t.pending

  back : loaded (stored ws t) ≡ t
  unfolding loaded loaded_bands stored
  back =
      rw (pending_back, delay_back (word ws 9) t.prev, half_small t.rate 0 h.rate, half_small t.edges 0 h.edges, half_small t.jumps 0 h.jumps, half_small t.unconfident 0 h.unconfident, flag_reads t.suspect, half_small t.largest 0 h.largest)

pub load_after_store : LoadsAfterStore
load_after_store ws t h = back ws t h
