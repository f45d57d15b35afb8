-- What a start comes to, refused and not.
use Prim.Native.Nat.{ℕ}
use mathlib.Core.Path.{◌≡◌, sym, ap, ◌∙◌}
use mathlib.Core.Bool.{true}
use lib.Dec.{eqb}
use lib.ListN.{length}
use borrow.Author.Tests.{eqb-true}
use Rattle.answers.specs.Pick.{pick_true}
use Rattle.answers.specs.Numbers.{allowed_rate}
use Rattle.answers.proofs.Refusals.{passed}
use Rattle.folds.specs.Sums.{zeros}
use Rattle.scan.specs.Bins.{in_table, geometry_of, full_slack, envelope_len, near_len, window_len, prefix_len, lags}
use Rattle.scan.specs.State.{Buffers}
use Rattle.scan.specs.Calls.{all_lengths}
use Rattle.scan.specs.declared.Geometry.{Geometry}
use Rattle.scan_calls.proofs.Chains.{turned_down, accepted, first, second}
use Rattle.tracker.specs.Tracker.{made, fresh}
use Rattle.recording.specs.declared.Header.{Header}
use Rattle.replay.specs.Log.{new_session, clear_buffers}
use Rattle.replay.specs.Beginning.{beginning, start_refusal, beginning_of}
use Rattle.replay.specs.declared.Session.{Session}
use Rattle.replay.specs.declared.Begun.TheVariants as begun

-- a rate of the table has its own tracker
pub own_tracker : (rate ceiling : ℕ) → in_table rate ceiling ≡ true → (made rate).tracker ≡ fresh rate
unfolding in_table made
own_tracker rate ceiling h = rw (pick_true _ _ _ (first (allowed_rate rate) _ h))

-- every buffer zeros, as long as it was
abbrev pub all_zeros : Buffers → Buffers
all_zeros b =
    record {
      envelope = zeros (length b.envelope);
      levels = zeros (length b.levels);
      window = zeros (length b.window);
      prefix = zeros (length b.prefix);
      squares = zeros (length b.squares);
      scores = zeros (length b.scores);
      lag_sums = zeros (length b.lag_sums);
    }

cleared : (g : Geometry) (b : Buffers) → all_lengths full_slack g b ≡ true → all_zeros b ≡ clear_buffers g
cleared g b t =
    let t₁ = second (eqb (length b.envelope) (envelope_len full_slack g)) _ t in
    let t₂ = second (eqb (length b.levels) (near_len g)) _ t₁ in
    let t₃ = second (eqb (length b.window) (window_len g)) _ t₂ in
    let t₄ = second (eqb (length b.prefix) (prefix_len g)) _ t₃ in
    let t₅ = second (eqb (length b.squares) (prefix_len g)) _ t₄ in
    let e₀ : length b.envelope ≡ envelope_len full_slack g = eqb-true _ _ (first (eqb (length b.envelope) (envelope_len full_slack g)) _ t) in
    let e₁ : length b.levels ≡ near_len g = eqb-true _ _ (first (eqb (length b.levels) (near_len g)) _ t₁) in
    let e₂ : length b.window ≡ window_len g = eqb-true _ _ (first (eqb (length b.window) (window_len g)) _ t₂) in
    let e₃ : length b.prefix ≡ prefix_len g = eqb-true _ _ (first (eqb (length b.prefix) (prefix_len g)) _ t₃) in
    let e₄ : length b.squares ≡ prefix_len g = eqb-true _ _ (first (eqb (length b.squares) (prefix_len g)) _ t₄) in
    let e₅ : length b.scores ≡ lags g = eqb-true _ _ (first (eqb (length b.scores) (lags g)) _ t₅) in
    let e₆ : length b.lag_sums ≡ lags g = eqb-true _ _ (second (eqb (length b.scores) (lags g)) _ t₅) in
    rw (e₀, e₁, e₂, e₃, e₄, e₅, e₆)

module _ (h : Header) (b : Buffers) {n : ℕ} (is : n ≡ start_refusal h.rate h.ceiling b) where
  pub not_begun : (n ≡ 0 → ⊥) → beginning (begun.Refused n) b ≡ beginning_of h b
  unfolding beginning_of
  not_begun f = turned_down is _ f (rw is)

  pub within_table : n ≡ 0 → in_table h.rate h.ceiling ≡ true
  unfolding start_refusal
  within_table z = (passed (in_table h.rate h.ceiling) 0 _ (sym is ∙ z)).0

  is_begun : n ≡ 0 → beginning (begun.Ready (new_session h.rate h.ceiling)) (all_zeros b) ≡ beginning_of h b
  unfolding beginning_of start_refusal
  is_begun z =
      let one = passed (in_table h.rate h.ceiling) 0 _ (sym is ∙ z) in
      let two = passed (all_lengths full_slack (geometry_of h.rate h.ceiling) b) 1 _ one.1 in
      accepted is _ z (ap (beginning (begun.Ready (new_session h.rate h.ceiling))) (cleared (geometry_of h.rate h.ceiling) b two.0))

  -- the same of what the code made
  pub has_begun : (s : Session) (z : Buffers) → n ≡ 0 → s ≡ new_session h.rate h.ceiling → z ≡ all_zeros b → beginning (begun.Ready s) z ≡ beginning_of h b
  has_begun s z zero e f = rw (e, f) (is_begun zero)
