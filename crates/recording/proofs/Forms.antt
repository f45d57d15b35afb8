-- Laws of the forms: how long a header is that opens, and how many bytes samples have.
use Rattle.std.specs.Prelude.{Option, Some, None}
use mathlib.Core.Path.{◌≡◌, refl, sym, ap, ◌∙◌}
use mathlib.Core.Bool.{Bool, true, false}
use mathlib.Core.List.{List}
use mathlib.Core.Logic.{◌⊎◌, inl, inr}
use Prim.Native.Nat.{ℕ, ◌*◌, ◌/◌, ◌≤◌}
use native.Mathlib.Omega.{arith}
use lib.Dec.{leb, eqb}
use lib.ListN.{length}
use borrow.Author.Tests.{le-leb, leb-true, eqb-true, eq-eqb, ne_eqb}
use Rattle.answers.proofs.Passed.{both_true}
use Rattle.answers.specs.Pick.{pick, both, pick_true, pick_false, pick_case}
use Rattle.answers.specs.Numbers.{allowed_rate, allowed_ceiling}
use Rattle.recording.specs.Recording.{u32_at, offset_of, sibling_of, shape_at, header_at, headed, opened, header_length}
use Rattle.recording.specs.Samples.{width, bytes_of}
use Rattle.recording.specs.declared.Form.{Form}
use Rattle.recording.specs.declared.Form.TheVariants.{Plain, Floats, Shorts}
use Rattle.recording.specs.declared.Header.{Header}

-- ---- a header that opens

opened_for : (t : Bool) (x : Option Header) (h : Header) → pick t x None ≡ Some h → (t ≡ true) × (x ≡ Some h)
unfolding pick
opened_for true x h e = (refl, e)
opened_for false x h e = let z : ◌≡◌ {A = ℕ} 0 1 = cc in absurd (omega (arith, z))

headed_for : (s : List ℕ) (x : Option Form) (h : Header) → headed s x ≡ Some h → (x ≡ Some h.form) × (header_at h.form s ≡ h)
headed_for s (Some form) h e = let q : header_at form s ≡ h = cc in (ap (λ (k : Header). Some k.form) q, ap (λ (k : Header). header_at k.form s) (sym q) ∙ q)
headed_for s None h e = let z : ◌≡◌ {A = ℕ} 0 1 = cc in absurd (omega (arith, z))

sibling_offset : (kind : ℕ) (form : Form) → sibling_of kind ≡ Some form → offset_of form ≡ 28
sibling_offset kind form =
    pick_case (λ (x : Option Form). x ≡ Some form → offset_of form ≡ 28) (eqb kind 1) _ _
    (λ t e. let q : Floats ≡ form = cc in ap offset_of (sym q))
    (λ t. pick_case (λ (x : Option Form). x ≡ Some form → offset_of form ≡ 28) (eqb kind 2) _ _ (λ u e. let q : Shorts ≡ form = cc in ap offset_of (sym q)) (λ u e. let z : ◌≡◌ {A = ℕ} 0 1 = cc in absurd (omega (arith, z))))

abbrev Offset : List ℕ → Form → Type 0
Offset s form = ((offset_of form ≡ 24) × (u32_at s 12 ≡ 24)) ⊎ ((offset_of form ≡ 28) × (u32_at s 12 ≡ 28) × (28 ≤ length s))

shape_offset : (s : List ℕ) (form : Form) → shape_at s ≡ Some form → Offset s form
unfolding shape_at
shape_offset s form =
    pick_case (λ (x : Option Form). x ≡ Some form → Offset s form) (eqb (u32_at s 12) 24) _ _
    (λ t e. let q : Plain ≡ form = cc in inl (ap offset_of (sym q), eqb-true (u32_at s 12) 24 t))
    (λ t. pick_case (λ (x : Option Form). x ≡ Some form → Offset s form) (both (eqb (u32_at s 12) 28) (leb 28 (length s))) _ _
    (λ b e. let w = both_true (eqb (u32_at s 12) 28) (leb 28 (length s)) b in inr (sibling_offset (u32_at s 24) form e, eqb-true (u32_at s 12) 28 w.0, leb-true 28 (length s) w.1))
    (λ b e. let z : ◌≡◌ {A = ℕ} 0 1 = cc in absurd (omega (arith, z))))

module _ (s : List ℕ) (h : Header) (q : opened s ≡ Some h) where
  tests : (both (leb 24 (length s)) (both (allowed_rate (u32_at s 0)) (allowed_ceiling (u32_at s 4))) ≡ true) × (headed s (shape_at s) ≡ Some h)
  unfolding opened
  tests = opened_for _ (headed s (shape_at s)) h q

  pub opened_header : header_at h.form s ≡ h
  opened_header = (headed_for s (shape_at s) h tests.1).1

  opened_offset : Offset s h.form
  opened_offset = shape_offset s h.form (headed_for s (shape_at s) h tests.1).0

  first_24 : 24 ≤ length s
  first_24 = leb-true 24 (length s) (both_true _ _ tests.0).0

  -- its fields are in the table
  pub opened_allowed : both (allowed_rate h.rate) (allowed_ceiling h.ceiling) ≡ true
  opened_allowed = ap (λ (k : Header). both (allowed_rate k.rate) (allowed_ceiling k.ceiling)) (sym opened_header) ∙ (both_true (leb 24 (length s)) _ tests.0).1

  -- it is whole
  pub opened_whole : offset_of h.form ≤ length s
  opened_whole = elim opened_offset [
    | inl a ↦ omega (arith, first_24, a.0)
    | inr b ↦ omega (arith, b.0, b.2)
  ]

  pub opened_length : header_length s ≡ offset_of h.form
  unfolding header_length
  opened_length = elim opened_offset [
    | inl a ↦ pick_false _ _ _ (pick_true _ _ _ (le-leb 24 (length s) first_24) ∙ ne_eqb (u32_at s 12) 28 (λ e. omega (arith, a.1, e))) ∙ sym a.0
    | inr b ↦ pick_true _ _ _ (pick_true _ _ _ (le-leb 24 (length s) first_24) ∙ eq-eqb (u32_at s 12) 28 b.1) ∙ sym b.0
  ]

-- ---- bytes of samples

pub bytes_mono : (form : Form) (a b : ℕ) → a ≤ b → bytes_of form a ≤ bytes_of form b
bytes_mono Plain a b h = omega arith
bytes_mono Floats a b h = omega arith
bytes_mono Shorts a b h = omega arith

pub bytes_cancel : (form : Form) (a b : ℕ) → bytes_of form a ≤ bytes_of form b → a ≤ b
bytes_cancel Plain a b h = omega arith
bytes_cancel Floats a b h = omega arith
bytes_cancel Shorts a b h = omega arith

pub bytes_most : (form : Form) (n : ℕ) → bytes_of form n ≤ 4 * n
bytes_most Plain n = omega arith
bytes_most Floats n = omega arith
bytes_most Shorts n = omega arith

-- so many samples are held by their bytes
pub bytes_count : (form : Form) (n m : ℕ) → bytes_of form n ≤ m → n ≤ m / width form
bytes_count Plain n m h = omega arith
bytes_count Floats n m h = omega arith
bytes_count Shorts n m h = omega arith

pub count_whole : (form : Form) (n : ℕ) → bytes_of form n / width form ≡ n
count_whole Plain n = omega arith
count_whole Floats n = omega arith
count_whole Shorts n = omega arith
