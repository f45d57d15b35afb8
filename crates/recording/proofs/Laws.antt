-- Laws of little-endian numbers and of samples.
use Rattle.std.specs.Prelude.{Some, None}
use Rattle.std.specs.Bool.{then_some}
use mathlib.Core.Path.{◌≡◌, refl}
use mathlib.Core.Bool.{Bool, true, false}
use mathlib.Core.List.{List, ◌++◌}
use Prim.Native.Nat.{ℕ, suc, ◌+◌, ◌*◌, ◌<◌, ◌≤◌}
use native.Mathlib.Numerals.{add-one}
use native.Mathlib.Omega.{arith}
use lib.ListN.{length, take, drop, get_or, set, length-take}
use Rattle.std.proofs.lemmas.List.{take_all}
use lib.Seq.{drop-cons, take-suc-set}
use lib.Ieee.{Float}
use Rattle.answers.specs.Pick.{pick}
use Rattle.recording.specs.Bytes.{number_at}
use Rattle.recording.specs.Samples.{samples_in, sample_at, decoded_count, decoded}
use Rattle.recording.specs.declared.Form.{Form}

-- ---- numbers

-- the first byte, and the rest
number_cons : (n : ℕ) (s : List ℕ) (at : ℕ) → at < length s → number_at (suc n) s at ≡ get_or s at 0 + 256 * number_at n s (at + 1)
unfolding number_at
number_cons n s at h = rw (add-one, drop-cons s at 0)

number_none : (s : List ℕ) (at : ℕ) → number_at 0 s at ≡ 0
unfolding number_at
number_none s at = refl

pub number_four : (s : List ℕ) (at : ℕ) → at + 4 ≤ length s → number_at 4 s at ≡ get_or s at 0 + 256 * get_or s (at + 1) 0 + 65536 * get_or s (at + 2) 0 + 16777216 * get_or s (at + 3) 0
number_four s at h =
    let a : at + 1 + 1 ≡ at + 2 = omega arith in
    let b : at + 2 + 1 ≡ at + 3 = omega arith in
    rw (number_cons 3 s at (omega arith), number_cons 2 s (at + 1) (omega arith), a, number_cons 1 s (at + 2) (omega arith), b, number_cons 0 s (at + 3) (omega arith), number_none) (omega arith)

pub number_two : (s : List ℕ) (at : ℕ) → at + 2 ≤ length s → number_at 2 s at ≡ get_or s at 0 + 256 * get_or s (at + 1) 0
number_two s at h = rw (number_cons 1 s at (omega arith), number_cons 0 s (at + 1) (omega arith), number_none) (omega arith)

pub number_eight : (s : List ℕ) (at : ℕ) → at + 8 ≤ length s
    → number_at 8 s at ≡ get_or s at 0 + 256 * get_or s (at + 1) 0 + 65536 * get_or s (at + 2) 0 + 16777216 * get_or s (at + 3) 0
    + 4294967296 * (get_or s (at + 4) 0 + 256 * get_or s (at + 5) 0 + 65536 * get_or s (at + 6) 0 + 16777216 * get_or s (at + 7) 0)
number_eight s at h =
    let a : at + 1 + 1 ≡ at + 2 = omega arith in
    let b : at + 2 + 1 ≡ at + 3 = omega arith in
    let d : at + 3 + 1 ≡ at + 4 = omega arith in
    let e : at + 4 + 1 ≡ at + 5 = omega arith in
    let f : at + 4 + 2 ≡ at + 6 = omega arith in
    let g : at + 4 + 3 ≡ at + 7 = omega arith in
    rw (number_cons 7 s at (omega arith), number_cons 6 s (at + 1) (omega arith), a, number_cons 5 s (at + 2) (omega arith), b, number_cons 4 s (at + 3) (omega arith), d, number_four s (at + 4) (omega arith), e, f, g) (omega arith)

-- ---- tests

pub then_some_picks : {T : Type 0} (test : Bool) (x : T) → then_some test x ≡ pick test (Some x) None
unfolding pick
then_some_picks true x = refl
then_some_picks false x = refl

-- ---- samples

-- one sample more
pub decode_more : (form : Form) (s : List ℕ) (out : List Float) (i : ℕ) (x : Float) → i < length out → take i out ≡ samples_in form s i → x ≡ sample_at form s i
    → take (i + 1) (set out i x) ≡ samples_in form s (i + 1)
unfolding samples_in
decode_more form s out i x h e q = rw (add-one, take-suc-set, e, q)

-- all of them
pub decode_all : (form : Form) (s : List ℕ) (out items : List Float) (n i : ℕ) → n ≡ decoded_count form s out → length items ≡ length (take n out) → i ≤ length (take n out)
    → length (take n out) ≤ i → take i items ≡ samples_in form s i → (n ≡ decoded_count form s out) × (items ++ drop n out ≡ decoded form s out)
unfolding decoded
decode_all form s out items n i m l a b t =
    let k : length (take n out) ≡ n = omega (arith, length-take n out) in
    let e : i ≡ n = omega arith in
    let all : take n items ≡ items = take_all n items (omega arith) in
    (m, rw (← all) (rw (← e, t, e, m)))
