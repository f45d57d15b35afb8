-- Laws of plans and steps.
use mathlib.Core.Path.{◌≡◌, refl, ap, ◌∙◌}
use mathlib.Core.Bool.{Bool, true, false}
use mathlib.Core.List.{List, [], ◌∷◌, ◌++◌}
use Prim.Native.Nat.{ℕ, ◌+◌, ◌-◌, ◌/◌, ◌^◌, ◌<◌, ◌≤◌, min}
use native.Mathlib.Nat.{div-lt_iff_lt-mul, add-div_right, div-eq_of_lt}
use native.Mathlib.Omega.{arith}
use lib.Dec.{leb, eqb}
use borrow.Author.Tests.{ltb-true, leb-true, leb-false}
use Rattle.answers.specs.Pick.{pick_true}
use Rattle.answers.specs.Numbers.{limit, within, allowed_rate, allowed_ceiling}
use Rattle.answers.proofs.Passed.{both_true}
use Rattle.recording.specs.Bytes.{bytes}
use Rattle.recording.specs.Recording.{offset_of, kind_bytes}
use Rattle.recording.specs.declared.Form.{Form}
use Rattle.recording.specs.declared.Form.TheVariants.{Plain, Floats, Shorts}
use Rattle.recording.specs.declared.Header.{Header}
use Rattle.recording.specs.declared.Used.{Used}
use Rattle.wav.specs.declared.Sound.{Sound}
use Rattle.recording_make.specs.Making.{form_of, events_of, plan_of, same_kind, planned, fitting, fars_turn, kind_number, room_behind}
use Rattle.recording_make.specs.declared.Plan.{Plan}
use Rattle.std.specs.Prelude.{Ok}

-- ---- how many events a side has

pub few_events : (piece samples : ℕ) → 80 ≤ piece → samples < 2 ^ 32 → events_of piece samples ≤ 53687092
few_events piece samples p s =
    let l : (samples + (piece - 1)) / piece < 53687093 = (div-lt_iff_lt-mul {k = piece} {x = samples + (piece - 1)} {y = 53687093} (omega arith)).1 (omega arith) in
    omega arith

-- none for no samples
pub no_events : (piece : ℕ) → 0 < piece → events_of piece 0 ≡ 0
no_events piece p = div-eq_of_lt (omega arith)

-- one for the next piece, and those of the rest
abbrev OneMore : ℕ → ℕ → ℕ → Type 0
OneMore piece samples taken = events_of piece samples ≡ 1 + events_of piece (samples - taken)

more_events : (piece samples : ℕ) → 0 < piece → piece ≤ samples → OneMore piece samples piece
more_events piece samples p l =
    let e : samples + (piece - 1) ≡ samples - piece + (piece - 1) + piece = omega arith in
    ap (λ (n : ℕ). n / piece) e ∙ add-div_right (samples - piece + (piece - 1)) p ∙ omega arith

last_event : (piece samples : ℕ) → 0 < piece → 0 < samples → samples ≤ piece → OneMore piece samples samples
last_event piece samples p s l =
    let e : samples + (piece - 1) ≡ samples - 1 + piece = omega arith in
    let z : (samples - 1) / piece ≡ 0 = div-eq_of_lt (omega arith) in
    let n : samples - samples ≡ 0 = omega arith in
    ap (λ (m : ℕ). m / piece) e ∙ add-div_right (samples - 1) p ∙ rw (z, n, no_events piece p)

pub one_event : (piece samples : ℕ) → 0 < piece → 0 < samples → OneMore piece samples (min piece samples)
one_event piece samples p s = by_size (leb piece samples) refl
  where
    by_size : (t : Bool) → leb piece samples ≡ t → OneMore piece samples (min piece samples)
    by_size true e =
        let m : min piece samples ≡ piece = omega (arith, leb-true piece samples e) in
        rw m (more_events piece samples p (leb-true piece samples e))
    by_size false e =
        let m : min piece samples ≡ samples = omega (arith, leb-false piece samples e) in
        rw m (last_event piece samples p s (omega (arith, leb-false piece samples e)))

-- ---- tests that have passed

pub within_least : (lo hi n : ℕ) → within lo hi n ≡ true → lo ≤ n
within_least lo hi n e = leb-true lo n (both_true _ _ e).0

pub limited : (p : Plan) → fitting p ≡ true → p.start + p.header.near ≤ limit
unfolding fitting
limited p e = leb-true _ _ (both_true _ _ e).1

pub far_left : (h : Header) (u : Used) → fars_turn h u ≡ true → u.far < h.far
unfolding fars_turn
far_left h u e = ltb-true _ _ (both_true _ _ e).0

-- ---- bytes

pub offset_most : (form : Form) → offset_of form ≤ 28
offset_most Plain = omega arith
offset_most Floats = omega arith
offset_most Shorts = omega arith

pub kind_room : (form : Form) → bytes 4 (kind_number form) ≡ kind_bytes form ++ room_behind form
kind_room Plain = refl
kind_room Floats = refl
kind_room Shorts = refl

-- four bytes, and those behind them
pub joined : (a b c d v : ℕ) (rest behind : List ℕ) → (a ∷ b ∷ c ∷ d ∷ []) ≡ bytes 4 v → rest ≡ behind → a ∷ b ∷ c ∷ d ∷ rest ≡ bytes 4 v ++ behind
joined a b c d v rest behind e r = ap (λ (l : List ℕ). l ++ rest) e ∙ ap (λ (l : List ℕ). bytes 4 v ++ l) r

-- what passes every test is planned
pub plan_fits : (far near : Sound) (ceiling start : ℕ) → same_kind far.kind near.kind ≡ true → eqb far.rate near.rate ≡ true → allowed_rate far.rate ≡ true →
    allowed_ceiling ceiling ≡ true → leb (start + near.frames) limit ≡ true →
    planned far near ceiling start ≡ Ok (plan_of (form_of far.kind) far.rate ceiling far.frames near.frames start)
unfolding planned
plan_fits far near ceiling start a b c d e = pick_true _ _ _ a ∙ pick_true _ _ _ (pick_true _ _ _ b ∙ c) ∙ pick_true _ _ _ d ∙ pick_true _ _ _ e
