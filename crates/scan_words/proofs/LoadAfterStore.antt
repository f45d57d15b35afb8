-- What is stored loads again: `load_after_store`.
use Prim.Native.Nat.{ℕ, zero, suc, ◌^◌, ◌<◌}
use mathlib.Core.Path.{◌≡◌, refl, ap, ◌∙◌, subst}
use mathlib.Core.Bool.{true}
use mathlib.Core.List.{List, [], ◌∷◌}
use lib.Dec.{ltb}
use lib.ListN.{length}
use lib.Ieee.{binary32, binary64, of_bits}
use borrow.Author.Tests.{lt-ltb}
use Rattle.answers.specs.Pick.{pick, pick_true}
use Rattle.words.specs.Words.{word, half, all_below, pattern_of, flag_of}
use Rattle.scan.specs.declared.Found.{Found}
use Rattle.scan.specs.declared.Found.TheVariants.{Nothing, At}
use Rattle.scan.specs.declared.Verdict.{Verdict}
use Rattle.scan.specs.declared.Scan.{Scan}
use Rattle.scan_words.specs.Layout.{loaded_geometry, loaded_far, loaded_near, loaded_found, are_cases, loaded_banked, loaded_verdict, loaded, stored_geometry, stored_far, stored_near, stored_found, stored_verdict, stored}
use Rattle.scan_words.specs.Fitting.{FoundFits, Fits, LoadsAfterStore}
use Rattle.words.proofs.Back.{half_small, half_lt, reads, pattern_lt, flag_reads, flag_case, all_below_lem}

-- ---- a list, word by word

abbrev listed : (ℕ → ℕ) → ℕ → List ℕ
listed g zero = []
listed g (suc n) = g 0 ∷ listed (λ i. g (suc i)) n

listed_words : (ws : List ℕ) → listed (word ws) (length ws) ≡ ws
listed_words [] = refl
listed_words (w ∷ ws) = ap (λ (l : List ℕ). w ∷ l) (listed_words ws)

-- ---- the parts

module _ (g : ℕ → ℕ) (s : Scan) where
  -- all but the region
  abbrev base : List ℕ
  base =
      s.geometry.rate ∷ s.geometry.ceiling ∷ s.geometry.decimation ∷ s.geometry.bin_rate
      ∷ s.geometry.span ∷ s.geometry.frame ∷ s.geometry.ceiling_guard ∷ s.geometry.peak_guard
      ∷ s.far.next ∷ pattern_of binary64 (g 9) s.far.sum ∷ s.far.count ∷ s.far.accepted
      ∷ s.near.len ∷ pattern_of binary64 (g 13) s.near.sum ∷ s.near.count ∷ s.near.first
      ∷ s.verdict.banked ∷ s.verdict.frames ∷ pattern_of binary32 (half (g 18) 0) s.verdict.last
      ∷ g 19 ∷ g 20 ∷ g 21 ∷ flag_of s.verdict.beyond ∷ flag_of s.verdict.exhausted ∷ s.near.last ∷ []

  lays : stored (listed g 25) s ≡ stored_found base s.verdict.found
  unfolding stored stored_geometry stored_far stored_near stored_verdict
  lays = refl

  module _ (h : Fits s) where
    geometry_back : (f : Found) → loaded_geometry (stored_found base f) ≡ s.geometry
    unfolding loaded_geometry stored_found
    geometry_back Nothing = rw (half_small s.geometry.rate 0 h.rate, half_small s.geometry.ceiling 0 h.ceiling)
    geometry_back (At r) = rw (half_small s.geometry.rate 0 h.rate, half_small s.geometry.ceiling 0 h.ceiling)

    far_back : (f : Found) → loaded_far (stored_found base f) ≡ s.far
    unfolding loaded_far stored_found
    far_back Nothing = rw (reads binary64 (g 9) s.far.sum h.far_sum)
    far_back (At r) = rw (reads binary64 (g 9) s.far.sum h.far_sum)

    near_back : (f : Found) → loaded_near (stored_found base f) ≡ s.near
    unfolding loaded_near stored_found
    near_back Nothing = rw (reads binary64 (g 13) s.near.sum h.near_sum)
    near_back (At r) = rw (reads binary64 (g 13) s.near.sum h.near_sum)

    found_back : (f : Found) → FoundFits f → loaded_found (stored_found base f) ≡ f
    unfolding loaded_found stored_found pick
    found_back Nothing k = refl
    found_back (At r) k = rw (reads binary64 (g 21) r.correlation k)

    last_small : pattern_of binary32 (half (g 18) 0) s.verdict.last < 2 ^ 32
    last_small = pattern_lt (half (g 18) 0) s.verdict.last (half_lt (g 18)) h.last

    numbers_below : all_below (2 ^ 32) s.verdict.banked s.verdict.frames (pattern_of binary32 (half (g 18) 0) s.verdict.last) ≡ true
    numbers_below = all_below_lem _ _ _ _ (lt-ltb _ _ h.banked) (lt-ltb _ _ h.frames) (lt-ltb _ _ last_small)

    flags_below : (found : ℕ) → ltb found 2 ≡ true → all_below 2 found (flag_of s.verdict.beyond) (flag_of s.verdict.exhausted) ≡ true
    flags_below found e = all_below_lem _ _ _ _ e (flag_case s.verdict.beyond) (flag_case s.verdict.exhausted)

    cases_hold : (f : Found) → are_cases (stored_found base f) ≡ true
    unfolding are_cases stored_found
    cases_hold Nothing = pick_true _ _ _ numbers_below ∙ flags_below 0 refl
    cases_hold (At r) = pick_true _ _ _ numbers_below ∙ flags_below 1 refl

    banked_back : (f : Found) → loaded_banked (stored_found base f) ≡ s.verdict.banked
    unfolding loaded_banked stored_found
    banked_back Nothing = pick_true _ _ _ (cases_hold Nothing) ∙ half_small s.verdict.banked 4 h.banked
    banked_back (At r) = pick_true _ _ _ (cases_hold (At r)) ∙ half_small s.verdict.banked 4 h.banked

    last_back : of_bits binary32 (half (pattern_of binary32 (half (g 18) 0) s.verdict.last) 0) ≡ s.verdict.last
    last_back = ap (of_bits binary32) (half_small _ 0 last_small) ∙ reads binary32 (half (g 18) 0) s.verdict.last h.last

    with_found : Found → Verdict
    with_found f = record { banked = s.verdict.banked; frames = s.verdict.frames; last = s.verdict.last; found = f; beyond = s.verdict.beyond; exhausted = s.verdict.exhausted }

    verdict_back : (f : Found) → FoundFits f → loaded_verdict (stored_found base f) ≡ with_found f
    unfolding loaded_verdict stored_found with_found
    verdict_back Nothing k =
        rw (banked_back Nothing, half_small s.verdict.frames 0 h.frames, last_back, found_back Nothing k, flag_reads s.verdict.beyond, flag_reads s.verdict.exhausted)
    verdict_back (At r) k =
        rw (banked_back (At r), half_small s.verdict.frames 0 h.frames, last_back, found_back (At r) k, flag_reads s.verdict.beyond, flag_reads s.verdict.exhausted)

    whole_back : (f : Found) → FoundFits f → loaded (stored_found base f) ≡ record { geometry = s.geometry; far = s.far; near = s.near; verdict = with_found f }
    unfolding loaded
    whole_back f k = rw (geometry_back f, far_back f, near_back f, verdict_back f k)

    back : loaded (stored (listed g 25) s) ≡ s
    unfolding with_found
    back = ap loaded lays ∙ whole_back s.verdict.found h.found

pub load_after_store : LoadsAfterStore
load_after_store ws s e h =
    subst (λ (l : List ℕ). loaded (stored l s) ≡ s) (subst (λ (n : ℕ). listed (word ws) n ≡ ws) e (listed_words ws)) (back (word ws) s h)
