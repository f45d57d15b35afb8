-- Laws of decimal digits, and of texts put one after the other.
use Rattle.std.proofs.Common.{◌≡◌, ℕ, zero, suc, ◌+◌, ◌/◌, ◌%◌, ◌^◌, ◌<◌, ◌≤◌, ltb, List, [], ◌∷◌, ◌++◌, length, set, append_assoc, sym, refl, ap, ◌∙◌, add-zero, div-lt_iff_lt-mul, arith, length-append, le-ltb, lt-ltb}
use native.Mathlib.Nat.{pow-succ'}
use lib.Seq.{sets, sets-eq, length-sets}
use Rattle.std.proofs.lemmas.List.{drop-drop}
use borrow.Rule.Slice.PartMut.{put_mid}
use Rattle.answers.specs.Pick.{pick, pick_true, pick_false, pick_all}
use Rattle.log_lines.specs.Text.{digits, decimal}
use Rattle.log_lines.specs.Steps.{Put}

-- ---- digits

pub digits_length : (f n : ℕ) → length (digits f n) ≤ f
unfolding digits
digits_length zero n = omega arith
digits_length (suc f) n =
    pick_all (λ (t : List ℕ). length t ≤ suc f) (ltb n 10) ((48 + n) ∷ []) (digits f (n / 10) ++ (48 + n % 10) ∷ [])
    (omega arith) (simp length-append (omega (arith, digits_length f (n / 10))))

pub digits_step : (f n : ℕ) → digits (suc f) n ≡ pick (ltb n 10) ((48 + n) ∷ []) (digits f (n / 10) ++ (48 + n % 10) ∷ [])
unfolding digits
digits_step f n = refl

-- room for one digit more changes nothing
digits_more : (f n : ℕ) → n < 10 ^ suc f → digits (suc (suc f)) n ≡ digits (suc f) n
digits_more zero n h = rw (digits_step 1 n, digits_step 0 n, pick_true _ _ _ (lt-ltb n 10 h), pick_true _ _ _ (lt-ltb n 10 h))
digits_more (suc f) n h =
    rw (digits_step (suc (suc f)) n, digits_step (suc f) n, digits_more f (n / 10) ((div-lt_iff_lt-mul (omega arith)).1 (omega (arith, pow-succ' 10 (suc f)))))

pub one_digit : (n : ℕ) → n < 10 → decimal n ≡ (48 + n) ∷ []
unfolding decimal
one_digit n h = digits_step 19 n ∙ pick_true _ _ _ (lt-ltb n 10 h)

tenth : (n : ℕ) → n < 2 ^ 64 → decimal (n / 10) ≡ digits 19 (n / 10)
unfolding decimal
tenth n h = digits_more 18 (n / 10) (omega arith)

pub more_digits : (n : ℕ) → n < 2 ^ 64 → 10 ≤ n → decimal n ≡ decimal (n / 10) ++ (48 + n % 10) ∷ []
unfolding decimal
more_digits n h l = digits_step 19 n ∙ pick_false _ _ _ (le-ltb n 10 l) ∙ ap (λ (t : List ℕ). t ++ (48 + n % 10) ∷ []) (sym (tenth n h))

pub tenth_short : (n : ℕ) → n < 2 ^ 64 → length (decimal (n / 10)) ≤ 19
tenth_short n h = rw (tenth n h) (digits_length 19 (n / 10))

pub decimal_short : (n : ℕ) → length (decimal n) ≤ 20
unfolding decimal
decimal_short n = digits_length 20 n

-- ---- texts put one after the other

sets_append : (l : List ℕ) (i : ℕ) (t u : List ℕ) → sets l i (t ++ u) ≡ sets (sets l i t) (i + length t) u
sets_append l i [] u = rw (add-zero i)
sets_append l i (x ∷ t) u =
    let e : suc i + length t ≡ i + suc (length t) = omega arith in
    sets_append (set l i x) (suc i) t u ∙ ap (λ (k : ℕ). sets (sets (set l i x) (suc i) t) k u) e

pub then : {out mid after t u : List ℕ} {at k r : ℕ} → Put out at t mid k → Put mid k u after r → Put out at (t ++ u) after r
then {out} {mid} {after} {t} {u} {at} p q = record {
  bytes = rw (sets_append out at t u, ← p.bytes, ← p.place) q.bytes;
  place = rw length-append (omega (arith, p.place, q.place));
}

-- no byte is gained or lost
pub as_long : {out after t : List ℕ} {at r : ℕ} → Put out at t after r → length after ≡ length out
as_long {out} {after} {t} {at} p = rw p.bytes (length-sets out at t)

pub put_one : (out : List ℕ) (at n d : ℕ) → n < 10 → d ≡ 48 + n → Put out at (decimal n) (set out at d) (at + 1)
put_one out at n d h e = rw (one_digit n h, ← e) (record { bytes = refl; place = refl })

pub put_more : {out mid : List ℕ} {at k : ℕ} (n d : ℕ) → n < 2 ^ 64 → 10 ≤ n → d ≡ 48 + n % 10 → Put out at (decimal (n / 10)) mid k → Put out at (decimal n) (set mid k d) (k + 1)
put_more n d h l e p = rw (more_digits n h l, ← e) (then p (record { bytes = refl; place = refl }))

-- a text put in the place of as many bytes
pub put_part : (out : List ℕ) (at k : ℕ) (text part : List ℕ) → at + length text ≤ length out → k ≡ length text → part ≡ text → put_mid at k out part ≡ sets out at text
put_part out at k text part h e p = rw (p, e, drop-drop, ← append_assoc) (sym (sets-eq text out at h))

pub number_short : (words : List ℕ) (n : ℕ) → length (words ++ decimal n) ≤ length words + 20
number_short words n = omega (arith, length-append words (decimal n), decimal_short n)
