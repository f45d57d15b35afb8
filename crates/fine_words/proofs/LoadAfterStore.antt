-- What is stored loads again: `load_after_store`.
use Rattle.std.specs.Prelude.{Option, None, Some}
use Prim.Native.Nat.{ℕ}
use mathlib.Core.Path.{◌≡◌, refl, ◌∙◌}
use mathlib.Core.Bool.{Bool, true}
use mathlib.Core.List.{List}
use lib.Dec.{ltb}
use lib.Ieee.{binary64}
use borrow.Author.Tests.{lt-ltb}
use Rattle.answers.specs.Pick.{pick, both, pick_true}
use Rattle.words.specs.Words.{word}
use Rattle.words.proofs.Back.{half_small, reads, flag_reads, flag_case}
use Rattle.fine.specs.State.{positions}
use Rattle.fine.specs.declared.Positions.{Positions}
use Rattle.fine.specs.declared.Fine.{Fine}
use Rattle.fine_words.specs.Layout.{loaded_lengths, are_cases, loaded_origin, loaded_frames, loaded_peak_at, loaded_scans, loaded, peak_flag, first_word, last_word, stored}
use Rattle.fine_words.specs.Fitting.{Fits, LoadsAfterStore}

peak_case : (k : Option Positions) → ltb (peak_flag k) 2 ≡ true
peak_case None = refl
peak_case (Some p) = refl

all : {a b c d : Bool} → a ≡ true → b ≡ true → c ≡ true → d ≡ true → both a (both b (both c d)) ≡ true
all {a} {b} {c} {d} p q r t = pick_true a _ _ p ∙ pick_true b _ _ q ∙ pick_true c _ _ r ∙ t

module _ (ws : List ℕ) (s : Fine) (h : Fits s) where
  cases_hold : are_cases (stored ws s) ≡ true
  unfolding are_cases stored
  cases_hold = all (flag_case s.frames.retained) (lt-ltb _ _ h.taken) (lt-ltb _ _ h.skipped) (peak_case s.scans.peak_at)

  origin_back : loaded_origin (stored ws s) ≡ s.origin
  unfolding loaded_origin stored
  origin_back = pick_true _ _ _ cases_hold

  module _ (first last : ℕ) where
    unflagged : (p : Option Positions) → pick (lib.Dec.eqb (peak_flag p) 0) None (Some (positions (first_word first p) (last_word last p))) ≡ p
    unfolding pick
    unflagged None = refl
    unflagged (Some p) = refl

  peak_back : loaded_peak_at (stored ws s) ≡ s.scans.peak_at
  unfolding loaded_peak_at stored
  peak_back = unflagged (word ws 11) (word ws 13) s.scans.peak_at

  scans_back : loaded_scans (stored ws s) ≡ s.scans
  unfolding loaded_scans stored
  scans_back = rw (peak_back, reads binary64 (word ws 9) s.scans.ratio h.ratio)

  back : loaded (stored ws s) ≡ s
  unfolding loaded loaded_lengths loaded_frames stored
  back = rw (origin_back, scans_back, half_small s.lengths.span 0 h.span, half_small s.frames.taken 0 h.taken, half_small s.frames.skipped 0 h.skipped, flag_reads s.frames.retained)

pub load_after_store : LoadsAfterStore
load_after_store ws s h = back ws s h
