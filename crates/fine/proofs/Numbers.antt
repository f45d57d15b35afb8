-- A call is refused exactly where its list of refusals says so, and with that number.
use Rattle.std.specs.Prelude.{Option, None, Some}
use Prim.Native.Nat.{ℕ}
use mathlib.Core.Path.{◌≡◌, refl, sym}
use lib.Dec.{eqb}
use borrow.Author.Tests.{eqb-true}
use Rattle.answers.specs.Pick.{pick_case}
use Rattle.answers.specs.Refusals.{if_refused, none}
use Rattle.answers.specs.Answers.{counted}
use Rattle.answers.specs.Told.{change_told, count_told}
use Rattle.units.specs.declared.Samples.{Samples}
use Rattle.fine.specs.Calls.{changed, making_refusal, made, state_refusal, restarted, relocate_refusal, relocated, was_reset, samples_reported, search_range, last_scan_ratio, last_scan_peak_at}
use Rattle.fine.specs.Told.{samples_told, range_told, ratio_told, place_told, position_told, refusal_told}
use Rattle.fine.specs.declared.Positions.{Positions}
use Rattle.fine.specs.declared.Changed.{Changed}
use Rattle.fine.specs.declared.Fine.{Fine}

-- of a choice between a refusal that bears its number and an answer that bears none
pub told : {A : Type 0} (number : A → ℕ) (n : ℕ) (refused done : A) → number refused ≡ n → number done ≡ none → number (if_refused n refused done) ≡ n
told number n refused done r d = pick_case (λ a. number a ≡ n) (eqb n none) done refused (λ e. rw d (sym (eqb-true n none e))) (λ e. r)

change : (n : ℕ) (given next : Fine) → refusal_told (change_told (changed n given next).answer) ≡ n
unfolding changed
change n given next = told (λ (r : Changed). refusal_told (change_told r.answer)) n _ _ refl refl

pub made_number : (span : ℕ) → refusal_told (change_told (made span).answer) ≡ making_refusal span
unfolding made
made_number span = change _ _ _

pub restarted_number : (s : Fine) → refusal_told (change_told (restarted s).answer) ≡ state_refusal s
unfolding restarted
restarted_number s = change _ _ _

pub relocated_number : (s : Fine) (origin : Samples) → refusal_told (change_told (relocated s origin).answer) ≡ relocate_refusal s origin
unfolding relocated
relocated_number s origin = change _ _ _

pub reset_number : (s : Fine) → refusal_told (change_told (was_reset s).answer) ≡ state_refusal s
unfolding was_reset
reset_number s = change _ _ _

-- every report
pub samples_number : (n : ℕ) (d : Samples) → refusal_told (samples_told (samples_reported n d)) ≡ n
unfolding samples_reported
samples_number n d = told (λ a. refusal_told (samples_told a)) n _ _ refl refl

pub count_number : (n k : ℕ) → refusal_told (count_told (counted n k)) ≡ n
unfolding counted
count_number n k = told (λ a. refusal_told (count_told a)) n _ _ refl refl

pub range_number : (s : Fine) → refusal_told (range_told (search_range s)) ≡ state_refusal s
unfolding search_range
range_number s = told (λ a. refusal_told (range_told a)) (state_refusal s) _ _ refl refl

pub ratio_number : (s : Fine) → refusal_told (ratio_told (last_scan_ratio s)) ≡ state_refusal s
unfolding last_scan_ratio
ratio_number s = told (λ a. refusal_told (ratio_told a)) (state_refusal s) _ _ refl refl

place_accepts : (k : Option Positions) → refusal_told (place_told k) ≡ none
place_accepts None = refl
place_accepts (Some k) = refl

pub position_number : (s : Fine) → refusal_told (position_told (last_scan_peak_at s)) ≡ state_refusal s
unfolding last_scan_peak_at
position_number s = told (λ a. refusal_told (position_told a)) (state_refusal s) _ _ refl (place_accepts s.scans.peak_at)
