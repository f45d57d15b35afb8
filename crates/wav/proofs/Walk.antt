-- Laws of the walk over the chunks of a head.
use Rattle.std.specs.Prelude.{Result, Ok, Err}
use mathlib.Core.Path.{◌≡◌, refl, ap, ◌∙◌}
use mathlib.Core.List.{List}
use Prim.Native.Nat.{ℕ, zero, suc, ◌+◌, ◌-◌, ◌*◌, ◌<◌, ◌≤◌}
use native.Mathlib.Omega.{arith}
use lib.Dec.{ltb, eqb}
use borrow.Author.Tests.{lt-ltb, le-ltb, ltb-false, eq-eqb, ne_eqb, eqb-false}
use Rattle.answers.specs.Pick.{pick, pick_true, pick_false, pick_case}
use Rattle.wav.specs.Riff.{head_length, format_id, data_id, id_at, size_at, behind, format_past, found_at, chunks_from, chunks_of}
use Rattle.wav.specs.declared.Places.{Places}
use Rattle.wav.specs.declared.Reason.{Reason}
use Rattle.wav.specs.declared.Reason.TheVariants.{NoFormat, NoData}

module _ (s : List ℕ) where
  -- ---- one chunk

  pub walk_over : (n at format : ℕ) → n ≤ 0 → chunks_from s n at format ≡ Err NoData
  unfolding chunks_from
  walk_over zero at format h = refl
  walk_over (suc n) at format h = absurd (omega arith)

  pub walk_past : (n at format : ℕ) → head_length s < at + 8 → chunks_from s n at format ≡ Err NoData
  unfolding chunks_from
  walk_past zero at format h = refl
  walk_past (suc n) at format h = pick_true _ _ _ (lt-ltb _ _ h)

  one_step : (n at format : ℕ) → 0 < n → at + 8 ≤ head_length s
      → chunks_from s n at format ≡ pick (eqb (id_at s at) data_id) (found_at format at) (chunks_from s (n - 1) (behind s at) (format_past s at format))
  unfolding chunks_from
  one_step zero at format h inside = absurd (omega arith)
  one_step (suc k) at format h inside =
      let e : suc k - 1 ≡ k = omega arith in
      rw e (pick_false _ _ _ (le-ltb _ _ inside))

  module _ (n at format : ℕ) (some : 0 < n) (inside : at + 8 ≤ head_length s) where
    pub walk_data : id_at s at ≡ data_id → chunks_from s n at format ≡ found_at format at
    walk_data e = one_step n at format some inside ∙ pick_true _ _ _ (eq-eqb _ _ e)

    pub walk_on : (id_at s at ≡ data_id → ⊥) → chunks_from s n at format ≡ chunks_from s (n - 1) (behind s at) (format_past s at format)
    walk_on e = one_step n at format some inside ∙ pick_false _ _ _ (ne_eqb _ _ e)

  -- ---- where it ends

  -- the format that was passed ends before the chunk at hand
  abbrev Passed : ℕ → ℕ → Type 0
  Passed format at = 0 < format → format + 8 + size_at s format ≤ at

  abbrev Sound : Result Places Reason → Type 0
  Sound c = (p : Places) → c ≡ Ok p → (p.format + 8 + size_at s p.format ≤ p.samples) × (p.samples + 8 ≤ head_length s)

  found_sound : (format at : ℕ) → Passed format at → at + 8 ≤ head_length s → Sound (found_at format at)
  found_sound format at passed inside =
      pick_case Sound (eqb format 0) (Err NoFormat) (Ok (record { format = format; samples = at }))
      (λ t p e. absurd (let z : ◌≡◌ {A = ℕ} 0 1 = cc in omega arith))
      (λ t x e.
      let r : ◌≡◌ {A = Places} (record { format = format; samples = at }) x = cc in
      let p : format ≡ x.format = ap (λ (z : Places). z.format) r in
      let q : at ≡ x.samples = ap (λ (z : Places). z.samples) r in
      let l : format + 8 + size_at s format ≤ at = passed (omega (arith, eqb-false format 0 t)) in
      (rw (p, q) at l, rw q at inside))

  past_passed : (format at : ℕ) → Passed format at → Passed (format_past s at format) (behind s at)
  past_passed format at passed =
      pick_case (λ (f : ℕ). Passed f (behind s at)) (eqb (id_at s at) format_id) at format (λ t h. omega arith) (λ t h. omega (arith, passed h))

  pub walk_found : (n at format : ℕ) → Passed format at → Sound (chunks_from s n at format)
  unfolding chunks_from
  walk_found zero at format passed = λ p e. absurd (let z : ◌≡◌ {A = ℕ} 0 1 = cc in omega arith)
  walk_found (suc n) at format passed =
      pick_case Sound (ltb (head_length s) (at + 8)) _ _
      (λ t p e. absurd (let z : ◌≡◌ {A = ℕ} 0 1 = cc in omega arith))
      (λ t.
      pick_case Sound (eqb (id_at s at) data_id) _ _
      (λ d. found_sound format at passed (ltb-false (head_length s) (at + 8) t))
      (λ d. walk_found n (behind s at) (format_past s at format) (past_passed format at passed)))

  -- ---- every chunk of the head is seen: more steps find no more

  walk_more : (n k at format : ℕ) → head_length s < at + 8 * n + 8 → chunks_from s (n + k) at format ≡ chunks_from s n at format
  unfolding chunks_from
  walk_more zero k at format h = walk_past (0 + k) at format (omega arith)
  walk_more (suc n) k at format h =
      let e : suc n + k ≡ suc (n + k) = omega arith in
      ap (λ (m : ℕ). chunks_from s m at format) e ∙ ap (λ (c : Result Places Reason). pick (ltb (head_length s) (at + 8)) (Err NoData) (pick (eqb (id_at s at) data_id) (found_at format at) c))
      (walk_more n k (behind s at) (format_past s at format) (omega arith))

  pub walk_ends : (k : ℕ) → chunks_from s (8192 + k) 12 0 ≡ chunks_of s
  walk_ends k = walk_more 8192 k 12 0 (omega arith)
