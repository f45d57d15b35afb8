-- A run under way, and the runs that end at once or go through.
use Rattle.std.proofs.Common.{◌≡◌, ℕ, ◌+◌, ◌-◌, ◌<◌, ◌≤◌, Bool, true, false, not, eqb, List, [], ◌∷◌, ◌++◌, length, take, drop, sym, refl, ap, ◌∙◌, subst, add-zero, add_assoc, zero-add, add-one, arith, length-drop, take-append-drop, drop_of_length-le, length-take, drop-cons, drop-drop}
use lib.Ieee.{Float, nan}
use lib.Ieee.Scale.{finite}
use Rattle.answers.specs.Pick.{pick_true, pick_false, pick_case}
use Rattle.answers.specs.Numbers.{limit, next_long_count}
use Rattle.answers.proofs.Refusals.{passed, passed_both}
use Rattle.folds.specs.Sums.{at}
use Rattle.scan.specs.Bins.{near_len}
use Rattle.scan.specs.State.{finished, full, due, first_refusals}
use Rattle.scan.specs.Blocks.{Seen, dropped, held_at}
use Rattle.scan.specs.Calls.{NearPush, near_refusal, with_near}
use Rattle.scan.specs.declared.Near.{Near}
use Rattle.scan.specs.declared.Scan.{Scan}
use Rattle.scan_push.proofs.Calls.{not_taken, is_ignored}
use Rattle.scan_push.specs.Ready.{Gathers}
use Rattle.scan_calls.proofs.Chains.{yes, later}
use Rattle.scan_runs.specs.Runs.{Run, passes, rests, further, ran}
use Rattle.scan_runs.specs.Ready.{passable, after_sample, total_of, moved, stretched, Reaches, Open}
use Rattle.scan_runs.proofs.Stretching.{leapt}
use Rattle.scan_runs.proofs.Passing.{Steady, steady, stays, goes_on, keeps, gathers, small}

-- ---- runs in which every sample is answered alike

-- every sample is refused
pub refused : (s : Scan) (levels xs : List Float) (index : ℕ) → ((x : Float) → near_refusal s levels x index ≡ 0 → ⊥) → ran s levels xs index ≡ rests s levels
unfolding ran
refused s levels [] index h = refl
refused s levels (x ∷ xs) index h = pick_false _ _ _ (ap (λ (p : NearPush). passes p.took.answer) (sym (not_taken s levels x index refl (h x))))

pub not_judged : (s : Scan) (levels xs : List Float) (index : ℕ) → (first_refusals s (eqb (length levels) (near_len (due s))) ≡ 0 → ⊥) → ran s levels xs index ≡ rests s levels
unfolding near_refusal
not_judged s levels xs index h = refused s levels xs index (λ x z. h (passed_both (first_refusals s (eqb (length levels) (near_len (due s)))) _ z).0)

-- a full frame waits
pub waits : (s : Scan) (levels xs : List Float) (index : ℕ) → finished s.verdict ≡ false → full s.geometry s.near ≡ true → ran s levels xs index ≡ rests s levels
unfolding near_refusal
waits s levels xs index u f =
    refused s levels xs index
    (λ x z. let a = (passed_both (first_refusals s (eqb (length levels) (near_len (due s)))) _ z).1 in
    let b = (passed (not (full s.geometry s.near)) 5 _ (sym (pick_false (finished s.verdict) _ _ u) ∙ a)).0 in
    let e : true ≡ false = sym b ∙ ap not f in
    let contrary : ◌≡◌ {A = ℕ} 0 1 = cc in
    omega arith)

-- a finished scan ignores every sample
pub ignored : (s : Scan) (levels xs : List Float) (index : ℕ) → first_refusals s (eqb (length levels) (near_len (due s))) ≡ 0 → finished s.verdict ≡ true
    → ran s levels xs index ≡ record { scan = s; levels = levels; passed = length xs }
unfolding ran near_refusal
ignored s levels [] index z f = refl
ignored s levels (x ∷ xs) index z f =
    let e = is_ignored s levels x index {n = 0} (later (sym z) refl (yes refl _ f refl)) refl refl f in
    let rest = ignored s levels xs (next_long_count index) z f in
    let one : 1 + length xs ≡ length (x ∷ xs) = omega arith in
    rw (← e, rest, one) (pick_true true _ _ refl)

-- ---- a run under way: after i samples of a run on s₀ the near frame is n, and the rest of the run is still to come

pub record Going (s₀ : Scan) (levels₀ xs : List Float) (first : ℕ) (n : Near) (levels : List Float) (index i : ℕ) : Type 0 where
  pub within : i ≤ length xs
  pub ready : Steady (with_near s₀ n) levels
  pub whole : further i (ran (with_near s₀ n) levels (drop i xs) index) ≡ ran s₀ levels₀ xs first

-- from there on to the near frame n', by as many samples as its partial count is larger
pub record Leap (s₀ : Scan) (levels₀ xs : List Float) (first : ℕ) (n : Near) (levels : List Float) (index i : ℕ) (n' : Near) : Type 0 where
  pub onward : n.count ≤ n'.count
  pub less : i + (n'.count - n.count) < length xs
  pub small : 0 < n'.count - n.count → index + (n'.count - n.count) ≤ limit
  pub going : Going s₀ levels₀ xs first n' levels (index + (n'.count - n.count)) (i + (n'.count - n.count))

module _ (s₀ : Scan) (levels₀ xs : List Float) (first : ℕ) where
  pub starts : Open s₀ levels₀ → Going s₀ levels₀ xs first s₀.near levels₀ first 0
  starts o = record { within = omega arith; ready = steady s₀ levels₀ o; whole = ap (λ (z : ℕ). record { scan = (ran s₀ levels₀ xs first).scan; levels = (ran s₀ levels₀ xs first).levels; passed = z }) (zero-add (ran s₀ levels₀ xs first).passed) }

  module _ (n : Near) (levels : List Float) (index i : ℕ) (k : Going s₀ levels₀ xs first n levels index i) where
    abbrev now : Scan
    now = with_near s₀ n

    none_more : ◌≡◌ {A = Run} (record { scan = now; levels = levels; passed = i }) (further i (rests now levels))
    none_more = ap (λ (z : ℕ). record { scan = now; levels = levels; passed = z }) (sym (add-zero i))

    -- nothing is left
    pub through : length xs ≤ i → ◌≡◌ {A = Run} (record { scan = now; levels = levels; passed = i }) (ran s₀ levels₀ xs first)
    unfolding ran
    through l = none_more ∙ rw (drop_of_length-le xs l) at k.whole

    -- samples that go on with the block, summed at once: where the sum is not finite none is taken
    pub leaps : (m : ℕ) (part : List Float) (n' : Near) → Reaches s₀.geometry n index (length xs - i) m → part ≡ take m (drop i xs) → n' ≡ stretched n part → Leap s₀ levels₀ xs first n levels index i n'
    leaps m part n' r e p =
        let size : length part ≡ m = ap length e ∙ simp (length-take, length-drop) (omega (arith, r.within)) in
        let parts : part ++ drop (i + m) xs ≡ drop i xs = ap (λ (l : List Float). l ++ drop (i + m) xs) e ∙ ap (λ (l : List Float). take m (drop i xs) ++ l) (sym (drop-drop m i xs)) ∙ take-append-drop m (drop i xs) in
        rw p
        (pick_case (λ (z : Near). Leap s₀ levels₀ xs first n levels index i z) (finite (total_of n.sum part)) (moved n part) n
        (λ h. let q = leapt part (drop (i + m) xs) now levels index k.ready (λ z. r.underway (omega (arith, z))) (λ z. r.follows (omega (arith, z))) (omega (arith, r.partial)) (λ z. omega (arith, r.small (omega (arith, z)))) h in
        let taken : n.count + length part - n.count ≡ m = omega arith in
        let rest = ran (with_near s₀ (moved n part)) levels (drop (i + m) xs) (index + m) in
        record {
          onward = omega arith;
          less = omega (arith, taken, r.within);
          small = λ z. omega (arith, taken, r.small (omega (arith, taken, z)));
          going = rw taken
              (record {
                within = omega (arith, r.within);
                ready = q.ready;
                whole =
                    ap (λ (z : ℕ). record { scan = rest.scan; levels = rest.levels; passed = z }) (add_assoc i m rest.passed)
                    ∙ ap (λ (z : ℕ). further i (further z (ran (with_near s₀ (moved n part)) levels (drop (i + m) xs) (index + z)))) (sym size)
                    ∙ ap (further i) q.same
                    ∙ ap (λ (l : List Float). further i (ran now levels l index)) parts
                    ∙ k.whole;
              });
        })
        (λ h. let taken : n.count - n.count ≡ 0 = omega arith in
        record {
          onward = omega arith;
          less = omega (arith, taken, r.within);
          small = λ z. absurd (omega (arith, taken, z));
          going = rw (taken, add-zero index, add-zero i) k;
        }))

    module _ (more : i < length xs) where
      rest : further i (ran now levels (at xs i ∷ drop (i + 1) xs) index) ≡ ran s₀ levels₀ xs first
      rest = rw (add-one, ← drop-cons xs i nan) k.whole

      -- the sample does not pass
      pub ends : passable s₀.geometry n (at xs i) index ≡ false → ◌≡◌ {A = Run} (record { scan = now; levels = levels; passed = i }) (ran s₀ levels₀ xs first)
      ends h = none_more ∙ ap (further i) (sym (stays now levels k.ready (at xs i) index (drop (i + 1) xs) h)) ∙ rest

      module _ (h : passable s₀.geometry n (at xs i) index ≡ true) where
        pub below : index < limit
        below = small now levels k.ready (at xs i) index h

        pub gathers_if : dropped s₀.geometry (held_at n index) index ≡ false → Gathers s₀.geometry (held_at n index) levels (at xs i)
        gathers_if d = gathers now levels k.ready (at xs i) index h d

        pub goes : (n' : Near) (levels' : List Float) → n' ≡ (after_sample s₀.geometry (record { near = n; levels = levels }) (at xs i) index).near
            → levels' ≡ (after_sample s₀.geometry (record { near = n; levels = levels }) (at xs i) index).levels → Going s₀ levels₀ xs first n' levels' (index + 1) (i + 1)
        goes n' levels' p q =
            let t = after_sample s₀.geometry (record { near = n; levels = levels }) (at xs i) index in
            let r = ran (with_near s₀ t.near) t.levels (drop (i + 1) xs) (index + 1) in
            let e : further (i + 1) r ≡ further i (further 1 r) = ap (λ (z : ℕ). record { scan = r.scan; levels = r.levels; passed = z }) (add_assoc i 1 r.passed) in
            rw (p, q)
            (record {
              within = omega arith;
              ready = keeps now levels k.ready (at xs i) index h;
              whole = e ∙ ap (further i) (sym (goes_on now levels k.ready (at xs i) index h (drop (i + 1) xs))) ∙ rest;
            })

-- ---- what a run leaves

pub ran_steady : (xs : List Float) (s : Scan) (levels : List Float) (index : ℕ) → Steady s levels → Steady (ran s levels xs index).scan (ran s levels xs index).levels
unfolding ran
ran_steady [] s levels index k = k
ran_steady (x ∷ xs) s levels index k =
    let n = after_sample s.geometry (record { near = s.near; levels = levels }) x index in
    go (passable s.geometry s.near x index) refl (λ h. ran_steady xs (with_near s n.near) n.levels (index + 1) (keeps s levels k x index h))
  where
    S : Run → Type 0
    S r = Steady r.scan r.levels

    n : Seen
    n = after_sample s.geometry (record { near = s.near; levels = levels }) x index

    go : (t : Bool) → passable s.geometry s.near x index ≡ t → (passable s.geometry s.near x index ≡ true → S (ran (with_near s n.near) n.levels xs (index + 1))) → S (ran s levels (x ∷ xs) index)
    go true h rest = subst S (sym (goes_on s levels k x index h xs)) (rest h)
    go false h rest = subst S (sym (stays s levels k x index xs h)) k
