-- The promises of recordings: what was written is read back, and nothing past what is announced is read.
use Rattle.std.specs.Prelude.{Option, Some, None}
use mathlib.Core.Path.{◌≡◌, refl, sym, ap, ◌∙◌}
use mathlib.Core.Bool.{Bool, true, false}
use mathlib.Core.List.{List, ◌++◌}
use Prim.Native.Nat.{ℕ, zero, suc, ◌+◌, ◌/◌, ◌^◌, ◌<◌, ◌≤◌}
use native.Mathlib.Nat.{div-lt_iff_lt-mul, pow-succ'}
use native.Mathlib.Omega.{arith}
use lib.Dec.{ltb, leb, eqb}
use lib.ListN.{length, drop, length-append, length-drop}
use lib.Seq.{take-append-le, drop-append-le, drop-append-add}
use borrow.Author.Tests.{le-leb, ltb-true, eqb-true}
use Rattle.answers.proofs.Passed.{both_true, within_most}
use Rattle.answers.specs.Pick.{pick, both, pick_true, pick_false, pick_case}
use Rattle.answers.specs.Numbers.{allowed_rate, allowed_ceiling}
use Rattle.recording.specs.Bytes.{number, number_at, bytes}
use Rattle.recording.specs.Recording.{u32_at, shape_at, headed, opened, header_bytes, header_length, some_samples, unused, only_if, event_of, event_at, kind_of, count_of, number_of, allowed, event_bytes}
use Rattle.recording.specs.Samples.{width, bytes_of, samples_in}
use Rattle.recording.specs.declared.Form.{Form}
use Rattle.recording.specs.declared.Form.TheVariants.{Plain, Floats, Shorts}
use Rattle.recording.specs.declared.Header.{Header}
use Rattle.recording.specs.declared.Event.{Event}
use Rattle.recording.specs.declared.Event.TheVariants.{Far, Near, Rearm, DiscardNear, Unconfident, Interior, Edge, Discontinuity}

-- ---- numbers

number_back : (n v : ℕ) → v < 256 ^ n → number (bytes n v) ≡ v
number_back zero v h = omega arith
number_back (suc n) v h =
    let e = number_back n (v / 256) ((div-lt_iff_lt-mul (omega arith)).1 (omega (arith, pow-succ' 256 n))) in
    omega (arith, e)

-- a number is read from its own bytes alone
number_within : (n : ℕ) (s rest : List ℕ) (at : ℕ) → at + n ≤ length s → number_at n (s ++ rest) at ≡ number_at n s at
unfolding number_at
number_within n s rest at h =
    let d : n ≤ length (drop at s) = simp length-drop (omega arith) in
    rw (drop-append-le at s rest (omega arith), take-append-le n (drop at s) rest d)

-- ---- the header

header_of : Form → ℕ → ℕ → ℕ → ℕ → ℕ → Header
header_of form rate ceiling events far near = record { form = form; rate = rate; ceiling = ceiling; events = events; far = far; near = near }

module _ (rate ceiling events far near : ℕ) (rest : List ℕ) (r : allowed_rate rate ≡ true) (c : allowed_ceiling ceiling ≡ true) (d : events < 2 ^ 32) (e : far < 2 ^ 32) (f : near < 2 ^ 32) where
  written : (form : Form) → opened (header_bytes (header_of form rate ceiling events far near) ++ rest) ≡ Some (header_of form rate ceiling events far near)
  unfolding opened shape_at number_at pick header_of
  written Plain =
      rw (
        le-leb 24 (length (header_bytes (header_of Plain rate ceiling events far near) ++ rest)) (omega arith),
        number_back 4 rate (omega (arith, within_most 8000 192000 rate r)),
        number_back 4 ceiling (omega (arith, within_most 1 4000 ceiling c)),
        number_back 4 events d,
        number_back 4 far e,
        number_back 4 near f,
        r,
        c,
      )
  written Floats =
      rw (
        le-leb 24 (length (header_bytes (header_of Floats rate ceiling events far near) ++ rest)) (omega arith),
        le-leb 28 (length (header_bytes (header_of Floats rate ceiling events far near) ++ rest)) (omega arith),
        number_back 4 rate (omega (arith, within_most 8000 192000 rate r)),
        number_back 4 ceiling (omega (arith, within_most 1 4000 ceiling c)),
        number_back 4 events d,
        number_back 4 far e,
        number_back 4 near f,
        r,
        c,
      )
  written Shorts =
      rw (
        le-leb 24 (length (header_bytes (header_of Shorts rate ceiling events far near) ++ rest)) (omega arith),
        le-leb 28 (length (header_bytes (header_of Shorts rate ceiling events far near) ++ rest)) (omega arith),
        number_back 4 rate (omega (arith, within_most 8000 192000 rate r)),
        number_back 4 ceiling (omega (arith, within_most 1 4000 ceiling c)),
        number_back 4 events d,
        number_back 4 far e,
        number_back 4 near f,
        r,
        c,
      )

pub header_back : (h : Header) (rest : List ℕ) → allowed_rate h.rate ≡ true → allowed_ceiling h.ceiling ≡ true →
    h.events < 2 ^ 32 → h.far < 2 ^ 32 → h.near < 2 ^ 32 → opened (header_bytes h ++ rest) ≡ Some h
unfolding header_of
header_back h rest r c d e f = written h.rate h.ceiling h.events h.far h.near rest r c d e f h.form

-- bytes past the header are not read for it
module _ (s rest : List ℕ) (h : header_length s ≤ length s) where
  least : 24 ≤ length s
  unfolding header_length
  least = pick_case (λ (n : ℕ). n ≤ length s → 24 ≤ length s) (both (leb 24 (length s)) (eqb (u32_at s 12) 28)) 28 24 (λ t l. omega arith) (λ t l. omega arith) h

  sibling_whole : eqb (u32_at s 12) 28 ≡ true → 28 ≤ length s
  unfolding header_length
  sibling_whole e = rw (pick_true _ _ _ (pick_true _ _ _ (le-leb 24 (length s) least) ∙ e)) at h

  shape_within : (t : Bool) → eqb (u32_at s 12) 28 ≡ t → shape_at (s ++ rest) ≡ shape_at s
  unfolding shape_at
  shape_within true e =
      let l : 28 ≤ length (s ++ rest) = simp length-append (omega (arith, sibling_whole e)) in
      rw (number_within 4 s rest 12 (omega (arith, least)), number_within 4 s rest 24 (omega (arith, sibling_whole e)), le-leb 28 (length (s ++ rest)) l, le-leb 28 (length s) (sibling_whole e))
  shape_within false e =
      rw (number_within 4 s rest 12 (omega (arith, least)), pick_false _ _ _ (pick_false _ (leb 28 (length (s ++ rest))) false e), pick_false _ _ _ (pick_false _ (leb 28 (length s)) false e))

  headed_within : (x : Option Form) → headed (s ++ rest) x ≡ headed s x
  headed_within (Some form) = rw (
    number_within 4 s rest 0 (omega (arith, least)),
    number_within 4 s rest 4 (omega (arith, least)),
    number_within 4 s rest 8 (omega (arith, least)),
    number_within 4 s rest 16 (omega (arith, least)),
    number_within 4 s rest 20 (omega (arith, least)),
  )
  headed_within None = refl

  pub header_within : opened (s ++ rest) ≡ opened s
  unfolding opened
  header_within =
      let l : 24 ≤ length (s ++ rest) = simp length-append (omega (arith, least)) in
      rw (
        le-leb 24 (length (s ++ rest)) l,
        le-leb 24 (length s) least,
        number_within 4 s rest 0 (omega (arith, least)),
        number_within 4 s rest 4 (omega (arith, least)),
        shape_within (eqb (u32_at s 12) 28) refl,
        headed_within (shape_at s),
      )

  pub length_within : header_length (s ++ rest) ≡ header_length s
  unfolding header_length
  length_within =
      let l : 24 ≤ length (s ++ rest) = simp length-append (omega (arith, least)) in
      rw (le-leb 24 (length (s ++ rest)) l, le-leb 24 (length s) least, number_within 4 s rest 12 (omega (arith, least)))

-- ---- events

few : (count : ℕ) → some_samples count ≡ true → count < 2 ^ 32
few count e = omega (arith, within_most 1 4096 count e)

sixteen : (e : Event) (rest : List ℕ) → leb (0 + 16) (length (event_bytes e ++ rest)) ≡ true
sixteen e rest = le-leb (0 + 16) (length (event_bytes e ++ rest)) (omega arith)

pub event_back : (e : Event) (rest : List ℕ) → allowed e ≡ true → event_at (event_bytes e ++ rest) 0 ≡ Some e
unfolding event_at event_of number_at pick
event_back (Far count) rest h =
    rw (sixteen (Far count) rest, number_back 4 count (few count h), h)
event_back (Near count first) rest h =
    let f = both_true (some_samples count) (ltb first (2 ^ 64)) h in
    rw (sixteen (Near count first) rest, number_back 4 count (few count f.0), number_back 8 first (ltb-true first (2 ^ 64) f.1), f.0)
event_back Rearm rest h = rw (sixteen Rearm rest)
event_back DiscardNear rest h = rw (sixteen DiscardNear rest)
event_back Unconfident rest h = rw (sixteen Unconfident rest)
event_back (Interior alignment delay) rest h =
    let f = both_true (ltb alignment (2 ^ 32)) (ltb delay (2 ^ 64)) h in
    rw (sixteen (Interior alignment delay) rest, number_back 4 alignment (ltb-true alignment (2 ^ 32) f.0), number_back 8 delay (ltb-true delay (2 ^ 64) f.1))
event_back (Edge alignment delay) rest h =
    let f = both_true (ltb alignment (2 ^ 32)) (ltb delay (2 ^ 64)) h in
    rw (sixteen (Edge alignment delay) rest, number_back 4 alignment (ltb-true alignment (2 ^ 32) f.0), number_back 8 delay (ltb-true delay (2 ^ 64) f.1))
event_back Discontinuity rest h = rw (sixteen Discontinuity rest)

number_after : (n : ℕ) (earlier s : List ℕ) (at : ℕ) → number_at n (earlier ++ s) (length earlier + at) ≡ number_at n s at
unfolding number_at
number_after n earlier s at = rw (drop-append-add earlier s at)

-- an event is read the same wherever it stands
pub event_after : (earlier s : List ℕ) → 16 ≤ length s → event_at (earlier ++ s) (length earlier) ≡ event_at s 0
unfolding event_at
event_after earlier s h =
    let l : length earlier + 16 ≤ length (earlier ++ s) = simp length-append (omega arith) in
    let z : length earlier ≡ length earlier + 0 = omega arith in
    rw (
      le-leb (length earlier + 16) (length (earlier ++ s)) l,
      le-leb (0 + 16) (length s) (omega arith),
      number_after 4 earlier s 4,
      number_after 8 earlier s 8,
    ) (ap (λ (k : ℕ). pick true (event_of k (number_at 4 s 4) (number_at 8 s 8)) None) (ap (number_at 4 (earlier ++ s)) z ∙ number_after 4 earlier s 0))

-- the bytes of other events are not read for one
pub event_within : (s rest : List ℕ) (at : ℕ) → at + 16 ≤ length s → event_at (s ++ rest) at ≡ event_at s at
unfolding event_at
event_within s rest at h =
    let l : at + 16 ≤ length (s ++ rest) = simp length-append (omega arith) in
    rw (
      le-leb (at + 16) (length (s ++ rest)) l,
      le-leb (at + 16) (length s) h,
      number_within 4 s rest at (omega arith),
      number_within 4 s rest (at + 4) (omega arith),
      number_within 8 s rest (at + 8) (omega arith),
    )

-- ---- reading loses nothing: a good event's three fields are the numbers that were read

abbrev Said : ℕ → ℕ → ℕ → Option Event → Type 0
Said kind count number entry = (e : Event) → entry ≡ Some e → (kind_of e ≡ kind) × (count_of e ≡ count) × (number_of e ≡ number)

bad_says : (kind count number : ℕ) → Said kind count number None
bad_says kind count number e q = absurd (let z : ◌≡◌ {A = ℕ} 0 1 = cc in omega arith)

good_says : (e : Event) (kind count number : ℕ) → kind_of e ≡ kind → count_of e ≡ count → number_of e ≡ number → Said kind count number (Some e)
good_says e kind count number k c n e' q =
    let same : e ≡ e' = cc in
    (ap kind_of (sym same) ∙ k, ap count_of (sym same) ∙ c, ap number_of (sym same) ∙ n)

-- an event that uses neither field
plain_says : (e : Event) (k : ℕ) → kind_of e ≡ k → count_of e ≡ 0 → number_of e ≡ 0 → (kind count number : ℕ) → eqb kind k ≡ true →
    Said kind count number (only_if (both (unused count) (unused number)) e)
plain_says e k ke ce ne kind count number t =
    pick_case (Said kind count number) (both (unused count) (unused number)) (Some e) None
    (λ b. let f = both_true _ _ b in good_says e kind count number (ke ∙ sym (eqb-true kind k t)) (ce ∙ sym (eqb-true count 0 f.0)) (ne ∙ sym (eqb-true number 0 f.1)))
    (λ b. bad_says kind count number)

pub fields_read : (kind count number : ℕ) → Said kind count number (event_of kind count number)
unfolding event_of
fields_read kind count number =
    pick_case S (eqb kind 1) _ _ (λ t.
    pick_case S (both (some_samples count) (unused number)) _ _ (λ b. good_says (Far count) kind count number (sym (eqb-true kind 1 t)) refl (sym (eqb-true number 0 (both_true _ _ b).1))) (λ b. bad)) λ _.
    pick_case S (eqb kind 2) _ _ (λ t.
    pick_case S (some_samples count) _ _ (λ b. good_says (Near count number) kind count number (sym (eqb-true kind 2 t)) refl refl) (λ b. bad)) λ _.
    pick_case S (eqb kind 3) _ _ (plain_says Rearm 3 refl refl refl kind count number) λ _.
    pick_case S (eqb kind 4) _ _ (plain_says DiscardNear 4 refl refl refl kind count number) λ _.
    pick_case S (eqb kind 5) _ _ (plain_says Unconfident 5 refl refl refl kind count number) λ _.
    pick_case S (eqb kind 6) _ _ (λ t. good_says (Interior count number) kind count number (sym (eqb-true kind 6 t)) refl refl) λ _.
    pick_case S (eqb kind 7) _ _ (λ t. good_says (Edge count number) kind count number (sym (eqb-true kind 7 t)) refl refl) λ _.
    pick_case S (eqb kind 8) _ _ (plain_says Discontinuity 8 refl refl refl kind count number) λ _. bad
  where
    S : Option Event → Type 0
    S = Said kind count number

    bad : S None
    bad = bad_says kind count number

-- ---- samples

pub samples_within : (form : Form) (s rest : List ℕ) (n : ℕ) → bytes_of form n ≤ length s → samples_in form (s ++ rest) n ≡ samples_in form s n
unfolding samples_in
samples_within form s rest zero h = refl
samples_within form s rest (suc n) h = rw (samples_within form s rest n (omega arith), number_within (width form) s rest (bytes_of form n) (omega arith))
