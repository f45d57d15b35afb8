-- Window, prefixes and scores are scratch: no call reads what an earlier one left there, only how long they are. So two scans may share them.
use Prim.Native.Nat.{ℕ, ◌+◌}
use mathlib.Core.Path.{◌≡◌, refl, sym, ap₂, ◌∙◌, subst}
use mathlib.Core.List.{List, [], ◌∷◌}
use native.Mathlib.Omega.{arith}
use lib.ListN.{length}
use lib.Ieee.{Float}
use Rattle.answers.specs.Pick.{pick_case}
use Rattle.answers.proofs.Refusals.{passed_both}
use Rattle.folds.specs.Sums.{prefix_sums, prefix_squares}
use Rattle.scan.specs.Bins.{window_len, prefix_len, lags}
use Rattle.scan.specs.State.{Buffers, World, due, first_refusals}
use Rattle.scan.specs.Scoring.{window_of, quiet, flat, scores_of}
use Rattle.scan.specs.Calls.{Observation, all_lengths, frame_of, window_in, is_uncovered, is_ahead, score_refusal, counted_frame, judged, scored_frame, observed}
use Rattle.scan.specs.Steps.{Deed, near, score, rearm, discard, reset, ask, Call, far, deed, Response, Step, called}
use Rattle.scan.specs.Streams.{Item, own, foreign, after, answers}
use Rattle.scan.specs.declared.Geometry.{Geometry}
use Rattle.scan.specs.declared.Scan.{Scan}
use Rattle.scan.proofs.Laws.{pick_both, if_refused_both, if_refused_case, length_table}
use Rattle.scan.proofs.Settings.{Allowed}
use Rattle.scan.proofs.Accepted.{first_passed, follows_by, RightLengths, right_lengths}
use Rattle.scan.proofs.Contracts.{score_step}

-- scratch buffers of the same lengths
pub record ScratchLengths (b c : Buffers) : Type 0 where
  pub window : length c.window ≡ length b.window
  pub prefix : length c.prefix ≡ length b.prefix
  pub squares : length c.squares ≡ length b.squares
  pub scores : length c.scores ≡ length b.scores

-- two worlds that differ at most in what the scratch buffers hold
pub record ScratchAlike (w v : World) : Type 0 where
  pub scan : v.scan ≡ w.scan
  pub envelope : v.buffers.envelope ≡ w.buffers.envelope
  pub levels : v.buffers.levels ≡ w.buffers.levels
  pub lag_sums : v.buffers.lag_sums ≡ w.buffers.lag_sums
  pub lengths : ScratchLengths w.buffers v.buffers

-- the same answer, and worlds that differ at most there
pub record ScratchSteps (s t : Step) : Type 0 where
  pub response : t.response ≡ s.response
  pub world : ScratchAlike s.world t.world

-- the scratch of b, and these for the rest
abbrev pub around : Buffers → List Float → List Float → List Float → Buffers
around b envelope levels lag_sums = record { envelope = envelope; levels = levels; window = b.window; prefix = b.prefix; squares = b.squares; scores = b.scores; lag_sums = lag_sums }

-- the world w with the scratch of other buffers
abbrev pub lending : World → Buffers → World
lending w b = record { scan = w.scan; buffers = around b w.buffers.envelope w.buffers.levels w.buffers.lag_sums }

is_lending : (w v : World) → ScratchAlike w v → v ≡ lending w v.buffers
is_lending w v h = λ i. record { scan = h.scan i; buffers = around v.buffers (h.envelope i) (h.levels i) (h.lag_sums i) }

abbrev with_window : Buffers → List Float → Buffers
with_window b window = record { envelope = b.envelope; levels = b.levels; window = window; prefix = b.prefix; squares = b.squares; scores = b.scores; lag_sums = b.lag_sums }

-- two worlds with the same but for the scratch
around_alike : (b c : Buffers) → ScratchLengths b c → (s : Scan) (envelope levels lag_sums : List Float)
    → ScratchAlike (record { scan = s; buffers = around b envelope levels lag_sums }) (record { scan = s; buffers = around c envelope levels lag_sums })
around_alike b c e s envelope levels lag_sums =
    record { scan = refl; envelope = refl; levels = refl; lag_sums = refl; lengths = record { window = e.window; prefix = e.prefix; squares = e.squares; scores = e.scores } }

module _ (slack : ℕ) (w : World) (b : Buffers) (e : ScratchLengths w.buffers b) where
  abbrev v : World
  v = lending w b

  abbrev Both : Observation → Observation → Type 0
  Both p q = ScratchSteps (score_step p) (score_step q)

  score_refusal_lem : score_refusal slack v ≡ score_refusal slack w
  unfolding score_refusal
  score_refusal_lem =
      let a : all_lengths slack (due w.scan) v.buffers ≡ all_lengths slack (due w.scan) w.buffers = cc in
      cc

  judged_scratch : (levels window : List Float) → Both (judged w levels window) (judged v levels window)
  unfolding judged counted_frame
  judged_scratch levels window =
      let windowed : ScratchLengths (with_window w.buffers window) (with_window v.buffers window) = record { window = refl; prefix = e.prefix; squares = e.squares; scores = e.scores } in
      pick_both Both (quiet window) _ _ _ _ (λ t. record { response = refl; world = around_alike _ _ windowed _ _ _ _ })
      (λ t. pick_both Both (flat levels) _ _ _ _ (λ u. record { response = refl; world = around_alike _ _ windowed _ _ _ _ })
      (λ u. record { response = refl; world = record { scan = refl; envelope = refl; levels = refl; lag_sums = refl; lengths = record { window = refl; prefix = refl; squares = refl; scores = refl } } }))

  score_scratch : Both (observed slack w) (observed slack v)
  unfolding observed scored_frame
  score_scratch =
      rw score_refusal_lem
      (if_refused_both Both (score_refusal slack w) _ _ _ _ (record { response = refl; world = around_alike w.buffers b e _ _ _ _ })
      (λ z. pick_both Both (is_uncovered slack w) _ _ _ _ (λ u. record { response = refl; world = around_alike w.buffers b e _ _ _ _ })
      (λ u. pick_both Both (is_ahead w) _ _ _ _ (λ a. record { response = refl; world = around_alike w.buffers b e _ _ _ _ }) (λ a. judged_scratch (frame_of w) (window_in slack w)))))

  deed_scratch : (d : Deed) → ScratchSteps (called slack w (deed d)) (called slack v (deed d))
  deed_scratch (near x index) = (unfold called in record { response = refl; world = around_alike w.buffers b e _ _ _ _ })
  deed_scratch score = (unfold called in score_scratch)
  deed_scratch rearm = (unfold called in record { response = refl; world = around_alike w.buffers b e _ _ _ _ })
  deed_scratch discard = (unfold called in record { response = refl; world = around_alike w.buffers b e _ _ _ _ })
  deed_scratch reset = (unfold called in record { response = refl; world = around_alike w.buffers b e _ _ _ _ })
  deed_scratch (ask r) = (unfold called in record { response = refl; world = around_alike w.buffers b e _ _ _ _ })

  lent_scratch : (c : Call) → ScratchSteps (called slack w c) (called slack v c)
  lent_scratch (far xs) = (unfold called in record { response = refl; world = around_alike w.buffers b e _ _ _ _ })
  lent_scratch (deed d) = deed_scratch d

-- ---- the laws, of any two worlds, sound or not

pub called_scratch : (slack : ℕ) (w v : World) (c : Call) → ScratchAlike w v → ScratchSteps (called slack w c) (called slack v c)
called_scratch slack w v c h = subst (λ (z : World). ScratchSteps (called slack w c) (called slack z c)) (sym (is_lending w v h)) (lent_scratch slack w v.buffers h.lengths c)

pub answers_scratch : (slack : ℕ) (items : List Item) (w v : World) → ScratchAlike w v → (answers slack v items ≡ answers slack w items) × ScratchAlike (after slack w items) (after slack v items)
unfolding answers after
answers_scratch slack [] w v h = (refl, h)
answers_scratch slack (own c ∷ items) w v h =
    let o = called_scratch slack w v c h in
    let r = answers_scratch slack items (called slack w c).world (called slack v c).world o.world in
    (ap₂ {A = Response} {B = List Response} (λ (a : Response) (l : List Response). a ∷ l) o.response r.0, r.1)
answers_scratch slack (foreign u c ∷ items) w v h = answers_scratch slack items w v h

-- ---- no call changes the lengths

lengths_same : (b : Buffers) → ScratchLengths b b
lengths_same b = record { window = refl; prefix = refl; squares = refl; scores = refl }

lengths_then : (b c d : Buffers) → ScratchLengths b c → ScratchLengths c d → ScratchLengths b d
lengths_then b c d p q = record { window = q.window ∙ p.window; prefix = q.prefix ∙ p.prefix; squares = q.squares ∙ p.squares; scores = q.scores ∙ p.scores }

lengths_back : (b c : Buffers) → ScratchLengths b c → ScratchLengths c b
lengths_back b c p = record { window = sym p.window; prefix = sym p.prefix; squares = sym p.squares; scores = sym p.scores }

module _ (slack : ℕ) (w : World) where
  abbrev g : Geometry
  g = w.scan.geometry

  abbrev Keeps : Observation → Type 0
  Keeps p = ScratchLengths w.buffers p.buffers

  -- what is scored has settings of the table, and a geometry that follows from them
  scored_allowed : score_refusal slack w ≡ 0 → Allowed g
  unfolding score_refusal
  scored_allowed z = let a = first_passed w.scan _ (passed_both (first_refusals w.scan _) _ z).0 in record { inside = a.inside; follows = follows_by w.scan a.rules }

  judged_lengths : RightLengths g w.buffers → (levels window : List Float) → length window ≡ window_len g → Keeps (judged w levels window)
  unfolding judged counted_frame scores_of prefix_sums prefix_squares
  judged_lengths j levels window e =
      let p : length window + 1 ≡ prefix_len g = omega arith in
      pick_case Keeps (quiet window) _ _ (λ t. record { window = e ∙ sym j.window; prefix = refl; squares = refl; scores = refl })
      (λ t. pick_case Keeps (flat levels) _ _ (λ u. record { window = e ∙ sym j.window; prefix = refl; squares = refl; scores = refl })
      (λ u. record {
        window = e ∙ sym j.window;
        prefix = length_table _ (length window + 1) ∙ p ∙ sym j.prefix;
        squares = length_table _ (length window + 1) ∙ p ∙ sym j.squares;
        scores = length_table _ (lags g) ∙ sym j.scores;
      }))

  score_lengths : Keeps (observed slack w)
  unfolding observed scored_frame window_of
  score_lengths =
      if_refused_case Keeps (score_refusal slack w) _ _ (λ r. lengths_same w.buffers)
      (λ z. pick_case Keeps (is_uncovered slack w) _ _ (λ u. lengths_same w.buffers)
      (λ u. pick_case Keeps (is_ahead w) _ _ (λ a. lengths_same w.buffers)
      (λ a. judged_lengths (right_lengths slack w (scored_allowed z) z) (frame_of w) (window_in slack w) (length_table _ (window_len g)))))

  pub called_lengths : (c : Call) → ScratchLengths w.buffers (called slack w c).world.buffers
  called_lengths (far xs) = (unfold called in record { window = refl; prefix = refl; squares = refl; scores = refl })
  called_lengths (deed (near x index)) = (unfold called in record { window = refl; prefix = refl; squares = refl; scores = refl })
  called_lengths (deed score) = (unfold called in score_lengths)
  called_lengths (deed rearm) = (unfold called in record { window = refl; prefix = refl; squares = refl; scores = refl })
  called_lengths (deed discard) = (unfold called in record { window = refl; prefix = refl; squares = refl; scores = refl })
  called_lengths (deed reset) = (unfold called in record { window = refl; prefix = refl; squares = refl; scores = refl })
  called_lengths (deed (ask r)) = (unfold called in record { window = refl; prefix = refl; squares = refl; scores = refl })

-- ---- two scans that share their scratch

-- a call of the one or of the other
pub data Turn : Type 0 where
  one two : Call → Turn

-- the answers of two scans with buffers of their own
unfoldable pub apart : ℕ → World → World → List Turn → List Response
apart slack w v [] = []
apart slack w v (one c ∷ turns) = (called slack w c).response ∷ apart slack (called slack w c).world v turns
apart slack w v (two c ∷ turns) = (called slack v c).response ∷ apart slack w (called slack v c).world turns

-- and of two that are handed one window, two prefix buffers and one list of scores in turn, as the last call of either left them
unfoldable pub sharing : ℕ → World → World → List Turn → List Response
sharing slack w v [] = []
sharing slack w v (one c ∷ turns) = (called slack w c).response ∷ sharing slack (called slack w c).world (lending v (called slack w c).world.buffers) turns
sharing slack w v (two c ∷ turns) = (called slack v c).response ∷ sharing slack (lending w (called slack v c).world.buffers) (called slack v c).world turns

-- what another scan left in the scratch changes nothing
lending_alike : (w v : World) (b : Buffers) → ScratchAlike w v → ScratchLengths w.buffers b → ScratchAlike w (lending v b)
lending_alike w v b h e = record { scan = h.scan; envelope = h.envelope; levels = h.levels; lag_sums = h.lag_sums; lengths = record { window = e.window; prefix = e.prefix; squares = e.squares; scores = e.scores } }

-- each answers as if it were alone
pub sharing_apart : (slack : ℕ) (turns : List Turn) (w v w' v' : World) → ScratchAlike w w' → ScratchAlike v v' → ScratchLengths w.buffers v.buffers → sharing slack w' v' turns ≡ apart slack w v turns
unfolding apart sharing
sharing_apart slack [] w v w' v' h k e = refl
sharing_apart slack (one c ∷ turns) w v w' v' h k e =
    let o = called_scratch slack w w' c h in
    let l = called_lengths slack w c in
    let left : ScratchLengths v.buffers (called slack w' c).world.buffers = lengths_then _ _ _ (lengths_back _ _ e) (lengths_then _ _ _ l o.world.lengths) in
    ap₂ {A = Response} {B = List Response} (λ (a : Response) (r : List Response). a ∷ r) o.response
    (sharing_apart slack turns (called slack w c).world v _ _ o.world (lending_alike v v' _ k left) (lengths_then _ _ _ (lengths_back _ _ l) e))
sharing_apart slack (two c ∷ turns) w v w' v' h k e =
    let o = called_scratch slack v v' c k in
    let l = called_lengths slack v c in
    let left : ScratchLengths w.buffers (called slack v' c).world.buffers = lengths_then _ _ _ e (lengths_then _ _ _ l o.world.lengths) in
    ap₂ {A = Response} {B = List Response} (λ (a : Response) (r : List Response). a ∷ r) o.response
    (sharing_apart slack turns w (called slack v c).world _ _ (lending_alike w w' _ h left) o.world (lengths_then _ _ _ e l))
