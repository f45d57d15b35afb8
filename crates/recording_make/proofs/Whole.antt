-- A recording that is made is whole: each event is good and has its samples, and together they use every sample of both sides. So no line of its log begins with `bad`.
use Rattle.std.specs.Prelude.{Some, Result, Ok}
use mathlib.Core.Path.{◌≡◌, refl, sym, ap, ◌∙◌}
use mathlib.Core.Bool.{Bool, true, false, true≢false}
use mathlib.Core.List.{List, ◌++◌, append_assoc}
use Prim.Native.Nat.{ℕ, zero, suc, ◌+◌, ◌-◌, ◌*◌, ◌^◌, ◌<◌, ◌≤◌, min}
use native.Mathlib.Nat.{le_trans}
use native.Mathlib.Omega.{arith}
use lib.Dec.{ltb, leb}
use lib.ListN.{length, length-append}
use borrow.Author.Tests.{lt-ltb, ltb-true, ltb-false, leb-true, le-leb}
use Rattle.answers.specs.Pick.{either, pick_true, pick_false, pick_all, pick_case}
use Rattle.answers.specs.Numbers.{limit, allowed_rate, allowed_ceiling}
use Rattle.answers.proofs.Passed.{both_true, within_most}
use Rattle.recording.specs.Recording.{offset_of, opened, header_bytes, event_bytes, event_at, some_samples, allowed}
use Rattle.recording.specs.Samples.{bytes_of, used_up, admitted, all_used}
use Rattle.recording.specs.declared.Form.{Form}
use Rattle.recording.specs.declared.Form.TheVariants.{Plain, Floats, Shorts}
use Rattle.recording.specs.declared.Header.{Header}
use Rattle.recording.specs.declared.Used.{Used}
use Rattle.recording.specs.declared.Event.{Event}
use Rattle.recording.specs.declared.Event.TheVariants.{Far, Near}
use Rattle.recording.proofs.Forms.{bytes_mono}
use Rattle.recording.proofs.Theorems.{header_back, event_back, event_after}
use Rattle.recording_convert.specs.Whole.{Recording, lengths_of, entry_of, used_by, then_whole, whole_from, whole_at, whole_recording}
use Rattle.wav.specs.declared.Sound.{Sound}
use Rattle.recording_make.specs.Making.{form_of, piece_of, events_of, plan_of, planned, fitting, piece_from, fars_turn, nears_turn, step_with, step_of, entry_bytes, events_from, made}
use Rattle.recording_make.specs.declared.Plan.{Plan}
use Rattle.recording_make.specs.declared.Misfit.{Misfit}
use Rattle.recording_make.specs.declared.Step.{Step}
use Rattle.recording_make.specs.declared.Next.TheVariants.{Played, Heard}
use Rattle.recording_make.proofs.Laws.{within_least, far_left, few_events, no_events, one_event}

-- What is asked of a plan: `plan_from` gives no other.
pub record Fit (p : Plan) : Type 0 where
  pub rate : allowed_rate p.header.rate ≡ true
  pub ceiling : allowed_ceiling p.header.ceiling ≡ true
  pub indices : p.start + p.header.near ≤ limit
  pub far : p.header.far < 2 ^ 32
  pub near : p.header.near < 2 ^ 32
  pub events : p.header.events ≡ events_of (piece_of p.header.rate) p.header.far + events_of (piece_of p.header.rate) p.header.near

-- ---- one event

header_bytes_length : (h : Header) → length (header_bytes h) ≡ offset_of h.form
header_bytes_length h = by_form h.form refl
  where
    by_form : (form : Form) → h.form ≡ form → length (header_bytes h) ≡ offset_of h.form
    by_form Plain e = rw e
    by_form Floats e = rw e
    by_form Shorts e = rw e

-- an event stands behind others, and is read
read_at : (earlier rest : List ℕ) (e : Event) → allowed e ≡ true → event_at (earlier ++ (event_bytes e ++ rest)) (length earlier) ≡ Some e
read_at earlier rest e a = event_after earlier (event_bytes e ++ rest) (omega arith) ∙ event_back e rest a

-- a count of samples that an event may have
some : (count : ℕ) → 1 ≤ count → count ≤ 4096 → some_samples count ≡ true
some count a b = pick_true _ _ _ (le-leb 1 count a) ∙ le-leb count 4096 b

module _ (p : Plan) (fit : Fit p) where
  abbrev piece : ℕ
  piece = piece_of p.header.rate

  enough : 80 ≤ piece
  enough = omega (arith, within_least 8000 192000 p.header.rate fit.rate)

  few : piece ≤ 1920
  few = omega (arith, within_most 8000 192000 p.header.rate fit.rate)

  fitted : fitting p ≡ true
  unfolding fitting
  fitted = pick_true _ _ _ fit.rate ∙ le-leb _ _ fit.indices

  -- no events are left: no samples are
  none_left : (samples : ℕ) → events_of piece samples ≡ 0 → samples ≤ 0
  none_left samples e = by_test (ltb 0 samples) refl
    where
      by_test : (t : Bool) → ltb 0 samples ≡ t → samples ≤ 0
      by_test true t = absurd (omega (arith, e, one_event piece samples (omega (arith, enough)) (ltb-true 0 samples t)))
      by_test false t = ltb-false 0 samples t

  -- ---- the step: whose turn it is

  module _ (u : Used) where
    abbrev played : ℕ
    played = piece_from p.header.rate p.header.far u.far

    abbrev heard : ℕ
    heard = piece_from p.header.rate p.header.near u.near

    far_step_lem : fars_turn p.header u ≡ true → step_of p u ≡ step_with (Played played) (u.far + played) u.near
    unfolding step_of
    far_step_lem t = pick_true _ _ _ fitted ∙ pick_true _ _ _ t

    near_step : fars_turn p.header u ≡ false → nears_turn p.header u ≡ true → step_of p u ≡ step_with (Heard heard (p.start + u.near)) u.far (u.near + heard)
    unfolding step_of
    near_step t s = pick_true _ _ _ fitted ∙ pick_false _ _ _ t ∙ pick_true _ _ _ s

    -- where near has none left, far has none either, or it is its turn
    far_over : fars_turn p.header u ≡ false → p.header.near ≤ u.near → p.header.far ≤ u.far
    unfolding fars_turn
    far_over t l = by_test (ltb u.far p.header.far) refl
      where
        by_test : (b : Bool) → ltb u.far p.header.far ≡ b → p.header.far ≤ u.far
        by_test false b = ltb-false _ _ b
        by_test true b = absurd (true≢false (sym (pick_true _ _ _ b ∙ all_used_lem) ∙ t))
          where
            all_used_lem : either (leb u.far u.near) (leb p.header.near u.near) ≡ true
            all_used_lem = pick_all (λ (x : Bool). x ≡ true) (leb u.far u.near) true (leb p.header.near u.near) refl (le-leb _ _ l)

  -- ---- all of them

  module _ (events far near : List ℕ) (f : bytes_of p.header.form p.header.far ≤ length far) (n : bytes_of p.header.form p.header.near ≤ length near) where
    abbrev recorded : Recording
    recorded = record { events = events; far = far; near = near }

    -- an event is good, and has its samples
    one : (e : Event) (u v : Used) (k : ℕ) (earlier rest : List ℕ) (behind : Used → Bool) → allowed e ≡ true → admitted p.header (lengths_of recorded) u e ≡ Some v →
        length earlier ≡ offset_of p.header.form + 16 * k → events ≡ earlier ++ (event_bytes e ++ rest) →
        then_whole (used_by p.header recorded u (entry_of p.header.form recorded k)) behind ≡ behind v
    one e u v k earlier rest behind a s l q =
        let there : entry_of p.header.form recorded k ≡ Some e = ap (event_at events) (sym l) ∙ ap (λ (x : List ℕ). event_at x (length earlier)) q ∙ read_at earlier rest e a in
        rw (there, s)

    far_admitted : (u : Used) (count : ℕ) → u.far + count ≤ p.header.far → admitted p.header (lengths_of recorded) u (Far count) ≡ Some (used_up (u.far + count) u.near)
    unfolding admitted
    far_admitted u count l =
        pick_true _ _ _ (pick_true _ _ _ (le-leb _ _ l) ∙ le-leb _ _ (le_trans (bytes_mono p.header.form (u.far + count) p.header.far l) f))

    near_admitted : (u : Used) (count first : ℕ) → u.near + count ≤ p.header.near → admitted p.header (lengths_of recorded) u (Near count first) ≡ Some (used_up u.far (u.near + count))
    unfolding admitted
    near_admitted u count first l =
        pick_true _ _ _ (pick_true _ _ _ (le-leb _ _ l) ∙ le-leb _ _ (le_trans (bytes_mono p.header.form (u.near + count) p.header.near l) n))

    -- so many events are left where so many samples of each side are
    abbrev Left : ℕ → Used → Type 0
    Left left u = left ≡ events_of piece (p.header.far - u.far) + events_of piece (p.header.near - u.near)

    -- one event fewer is left behind a piece
    one_less : (left side other used : ℕ) → used < side → suc left ≡ events_of piece (side - used) + other →
        left ≡ events_of piece (side - (used + min piece (side - used))) + other
    one_less left side other used h c =
        let e : side - used - min piece (side - used) ≡ side - (used + min piece (side - used)) = omega arith in
        let m : events_of piece (side - used) ≡ 1 + events_of piece (side - (used + min piece (side - used))) =
        one_event piece (side - used) (omega (arith, enough)) (omega arith) ∙ ap (λ (x : ℕ). 1 + events_of piece x) e in
        omega (arith, m)

    -- the events behind one more
    longer : (earlier rest : List ℕ) (e : Event) (k : ℕ) → length earlier ≡ offset_of p.header.form + 16 * k → events ≡ earlier ++ (event_bytes e ++ rest) →
        (length (earlier ++ event_bytes e) ≡ offset_of p.header.form + 16 * (k + 1)) × (events ≡ (earlier ++ event_bytes e) ++ rest)
    longer earlier rest e k l q = (simp length-append (omega arith), q ∙ sym (append_assoc earlier (event_bytes e) rest))

    abbrev Goes : ℕ → Type 0
    Goes left = (k : ℕ) (u : Used) (earlier : List ℕ) → u.far ≤ p.header.far → u.near ≤ p.header.near → Left left u →
        length earlier ≡ offset_of p.header.form + 16 * k → events ≡ earlier ++ events_from p left u → whole_from p.header recorded left k u ≡ true

    one_more : (left : ℕ) → Goes left → Goes (suc left)
    unfolding whole_from events_from
    one_more left others k u earlier a b c l q = by_turn (fars_turn p.header u) refl (nears_turn p.header u) refl
      where
        by_turn : (t : Bool) → fars_turn p.header u ≡ t → (s : Bool) → nears_turn p.header u ≡ s → whole_from p.header recorded (suc left) k u ≡ true
        by_turn true t s r =
            let more : u.far < p.header.far = far_left p.header u t in
            let v = used_up (u.far + played u) u.near in
            let q' : events ≡ earlier ++ (event_bytes (Far (played u)) ++ events_from p left v) = q ∙ ap (λ (x : Step). earlier ++ (entry_bytes x.next ++ events_from p left x.used)) (far_step_lem u t) in
            let on = longer earlier (events_from p left v) (Far (played u)) k l q' in
            one (Far (played u)) u v k earlier (events_from p left v) (λ (w : Used). whole_from p.header recorded left (k + 1) w)
            (some (played u) (omega (arith, enough)) (omega (arith, few))) (far_admitted u (played u) (omega arith)) l q' ∙
            others (k + 1) v (earlier ++ event_bytes (Far (played u))) (omega arith) b
            (one_less left p.header.far (events_of piece (p.header.near - u.near)) u.far more c) on.0 on.1
        by_turn false t true r =
            let more : u.near < p.header.near = ltb-true u.near p.header.near r in
            let v = used_up u.far (u.near + heard u) in
            let event = Near (heard u) (p.start + u.near) in
            let q' : events ≡ earlier ++ (event_bytes event ++ events_from p left v) = q ∙ ap (λ (x : Step). earlier ++ (entry_bytes x.next ++ events_from p left x.used)) (near_step u t r) in
            let on = longer earlier (events_from p left v) event k l q' in
            let first : p.start + u.near < 2 ^ 64 = omega (arith, fit.indices) in
            let less : left ≡ events_of piece (p.header.near - (u.near + heard u)) + events_of piece (p.header.far - u.far) =
            one_less left p.header.near (events_of piece (p.header.far - u.far)) u.near more (omega arith) in
            one event u v k earlier (events_from p left v) (λ (w : Used). whole_from p.header recorded left (k + 1) w)
            (pick_true _ _ _ (some (heard u) (omega (arith, enough)) (omega (arith, few))) ∙ lt-ltb _ _ first) (near_admitted u (heard u) (p.start + u.near) (omega arith)) l q' ∙
            others (k + 1) v (earlier ++ event_bytes event) a (omega arith) (omega (arith, less)) on.0 on.1
        by_turn false t false r =
            let near-over : p.header.near ≤ u.near = ltb-false u.near p.header.near r in
            let no-far : p.header.far - u.far ≡ 0 = omega (arith, far_over u t near-over) in
            let no_near : p.header.near - u.near ≡ 0 = omega arith in
            let none = no_events piece (omega (arith, enough)) in
            absurd (omega (arith, c, ap (events_of piece) no-far ∙ none, ap (events_of piece) no_near ∙ none))

    goes : (left : ℕ) → Goes left
    unfolding whole_from all_used
    goes zero k u earlier a b c l q =
        pick_true (leb p.header.far u.far) _ _ (le-leb p.header.far u.far (omega (arith, none_left (p.header.far - u.far) (omega arith)))) ∙
        le-leb p.header.near u.near (omega (arith, none_left (p.header.near - u.near) (omega arith)))
    goes (suc left) k u earlier a b c l q = one_more left (goes left) k u earlier a b c l q

-- A recording that is made of a fitting plan and of all samples is whole.
pub made_whole : (p : Plan) (far near : List ℕ) → Fit p → bytes_of p.header.form p.header.far ≤ length far → bytes_of p.header.form p.header.near ≤ length near →
    whole_recording (made p far near) ≡ true
unfolding whole_recording made
made_whole p far near fit f n =
    let events = header_bytes p.header ++ events_from p p.header.events (used_up 0 0) in
    let total : p.header.events < 2 ^ 32 = omega (
      arith,
      fit.events,
      few_events (piece p fit) p.header.far (enough p fit) fit.far,
      few_events (piece p fit) p.header.near (enough p fit) fit.near,
    ) in
    let opens : opened events ≡ Some p.header =
    header_back p.header (events_from p p.header.events (used_up 0 0)) fit.rate fit.ceiling total fit.far fit.near in
    let all-far : p.header.far - 0 ≡ p.header.far = omega arith in
    let all_near : p.header.near - 0 ≡ p.header.near = omega arith in
    ap (whole_at (record { events = events; far = far; near = near })) opens ∙
    goes p fit events far near f n p.header.events 0 (used_up 0 0) (header_bytes p.header) (omega arith) (omega arith) (rw (all-far, all_near) fit.events) (header_bytes_length p.header ∙ omega arith) refl

-- Every plan that is made of two sounds is fitting.
pub planned_fits : (far near : Sound) (ceiling start : ℕ) (p : Plan) → far.frames < 2 ^ 32 → near.frames < 2 ^ 32 → planned far near ceiling start ≡ Ok p → Fit p
unfolding planned
planned_fits far near ceiling start p f n =
    pick_case Fitted _ _ _ (λ k.
    pick_case Fitted _ _ _ (λ r.
    pick_case Fitted _ _ _ (λ c.
    pick_case Fitted _ _ _ (λ i e.
    let same : plan_of (form_of far.kind) far.rate ceiling far.frames near.frames start ≡ p = cc in
    rw (← same) (record { rate = (both_true _ _ r).1; ceiling = c; indices = leb-true _ _ i; far = f; near = n; events = refl }))
    (λ i e. absurd (let z : ◌≡◌ {A = ℕ} 0 1 = cc in omega arith)))
    (λ c e. absurd (let z : ◌≡◌ {A = ℕ} 0 1 = cc in omega arith)))
    (λ r e. absurd (let z : ◌≡◌ {A = ℕ} 0 1 = cc in omega arith)))
    (λ k e. absurd (let z : ◌≡◌ {A = ℕ} 0 1 = cc in omega arith))
  where
    Fitted : Result Plan Misfit → Type 0
    Fitted x = x ≡ Ok p → Fit p

-- So what is made of two sounds, with all samples of one channel of each, is whole.
pub recorded_whole : (far near : Sound) (ceiling start : ℕ) (p : Plan) (a b : List ℕ) → far.frames < 2 ^ 32 → near.frames < 2 ^ 32 → planned far near ceiling start ≡ Ok p →
    bytes_of p.header.form p.header.far ≤ length a → bytes_of p.header.form p.header.near ≤ length b → whole_recording (made p a b) ≡ true
recorded_whole far near ceiling start p a b f n e x y = made_whole p a b (planned_fits far near ceiling start p f n e) x y
