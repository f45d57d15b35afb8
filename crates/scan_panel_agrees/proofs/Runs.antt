-- A run of near samples (request a): on two scans that agree it is answered alike, and they agree again. Of any two it leaves the far sides as they are.
use Prim.Native.Nat.{ℕ, ◌+◌, ◌<◌}
use mathlib.Core.Path.{◌≡◌, refl, sym, ap, ◌∙◌, subst}
use mathlib.Core.List.{List, [], ◌∷◌}
use mathlib.Core.Bool.{Bool, true, false}
use lib.Dec.{eqb}
use lib.ListN.{length, take}
use lib.Ieee.{Float}
use borrow.Author.Tests.{eqb-true, eqb-false}
use Rattle.answers.specs.Pick.{pick}
use Rattle.answers.specs.Refusals.{none}
use Rattle.folds.specs.Sums.{at}
use Rattle.scan.specs.Bins.{near_len}
use Rattle.scan.specs.State.{World, finished, full}
use Rattle.scan.specs.Blocks.{Seen, gather, held_at}
use Rattle.scan.specs.Steps.{near, deed, called}
use Rattle.scan.specs.Streams.{AllF32, after}
use Rattle.scan.specs.declared.Geometry.{Geometry}
use Rattle.scan.specs.declared.Near.{Near}
use Rattle.scan.specs.declared.Scan.{Scan}
use Rattle.scan.proofs.Laws.{pick_both, if_refused_both}
use Rattle.scan_handover.specs.declared.Handed.{Handed}
use Rattle.scan_handover.specs.declared.RunTaking.TheVariants as run
use Rattle.scan_handover.specs.Handover.{lead, takes, goes_in, run_refusal, NearRun, gather_all, taken_all, handed}
use Rattle.scan_handover.specs.Singles.{taken_in}
use Rattle.scan_handover.specs.InStreams.{as_items, after_run}
use Rattle.scan_handover.proofs.Places.{gather_length}
use Rattle.scan_handover.proofs.Theorems.{all_f32}
use Rattle.scan_handover.proofs.InStreams.{run_in_stream, refused_in_stream}
use Rattle.scan_panel.proofs.Rules.{beside}
use Rattle.scan_panel_agrees.specs.Agreement.{FarAlike, Agree}
use Rattle.scan_panel_agrees.proofs.Own.{Own, own_kept}
use Rattle.scan_panel_agrees.proofs.Agrees.{SeenSame, gather_same, held_alike}

-- the far sides stay alike
pub run_far : (wide narrow : ℕ) (w v : World) (xs : List Float) (first : ℕ) → FarAlike wide narrow w v → FarAlike wide narrow (after_run w xs first) (after_run v xs first)
run_far wide narrow w v xs first h =
    let p = beside w.scan w.buffers.levels xs first in
    let q = beside v.scan v.buffers.levels xs first in
    record {
      geometry = q.geometry ∙ h.geometry ∙ sym p.geometry;
      far = q.far ∙ h.far ∙ sym p.far;
      bins = rw (p.geometry, p.far) h.bins;
    }

-- ---- the same run on two near envelopes whose bins so far are alike

gather_all_same : (g : Geometry) (xs : List Float) (n : Near) (l l' : List Float) → length l' ≡ length l → ((i : ℕ) → i < n.len → at l' i ≡ at l i) → (index : ℕ)
    → SeenSame (gather_all g (record { near = n; levels = l }) xs index) (gather_all g (record { near = n; levels = l' }) xs index)
unfolding gather_all
gather_all_same g [] n l l' e h index = record { near = refl; levels = h }
gather_all_same g (x ∷ xs) n l l' e h index =
    let t = gather g (record { near = n; levels = l }) x index in
    let u = gather g (record { near = n; levels = l' }) x index in
    let s = gather_same g n l l' e h x index in
    let k : length u.levels ≡ length t.levels = gather_length g n l' x index ∙ e ∙ sym (gather_length g n l x index) in
    subst (λ (m : Near). SeenSame (gather_all g t xs (index + 1)) (gather_all g (record { near = m; levels = u.levels }) xs (index + 1))) (sym s.near)
    (gather_all_same g xs t.near t.levels u.levels k s.levels (index + 1))

record RunSame (p q : NearRun) : Type 0 where
  handed : q.handed ≡ p.handed
  levels : (i : ℕ) → i < p.handed.scan.near.len → at q.levels i ≡ at p.levels i

run_refusal_lem : (s : Scan) (l l' xs : List Float) (first : ℕ) → length l' ≡ length l → run_refusal s l' xs first ≡ run_refusal s l xs first
unfolding run_refusal
run_refusal_lem s l l' xs first e = rw e

runs_same : (s : Scan) (l l' xs : List Float) (first : ℕ) → length l' ≡ length l → ((i : ℕ) → i < s.near.len → at l' i ≡ at l i)
    → RunSame (handed s l xs first) (handed s l' xs first)
unfolding handed
runs_same s l l' xs first e h =
    rw (run_refusal_lem s l l' xs first e)
    (if_refused_both RunSame (run_refusal s l xs first) _ _ _ _ (record { handed = refl; levels = h })
    (λ z. pick_both RunSame (eqb (length xs) 0) _ _ _ _ (λ t. record { handed = refl; levels = h })
    (λ t. pick_both RunSame (finished s.verdict) _ _ _ _ (λ f. record { handed = refl; levels = h })
    (λ f. all_taken _ _ (gather_all_same s.geometry (goes_in s.geometry (held_at s.near first) first xs) (held_at s.near first) l l' e (held_alike s.near l l' h first) (first + lead s.geometry (held_at s.near first) first))))))
  where
    n : ℕ
    n = takes s.geometry (held_at s.near first) first (length xs)

    all_taken : (t u : Seen) → SeenSame t u → RunSame (taken_all s t (takes s.geometry (held_at s.near first) first (length xs))) (taken_all s u (takes s.geometry (held_at s.near first) first (length xs)))
    all_taken t u k =
        record {
          handed = ap {A = Near} {B = Handed} (λ (m : Near). record { scan = record { geometry = s.geometry; far = s.far; near = m; verdict = s.verdict }; answer = pick (full s.geometry m) (run.Full n) (run.Taken n) }) k.near;
          levels = k.levels;
        }

module _ (wide narrow : ℕ) (w v : World) (h : Agree wide narrow w v) (o : Own wide w) (o' : Own narrow v) (xs : List Float) (first : ℕ) where
  same_run : RunSame (handed w.scan w.buffers.levels xs first) (handed v.scan v.buffers.levels xs first)
  same_run =
      subst (λ (s : Scan). RunSame (handed w.scan w.buffers.levels xs first) (handed s v.buffers.levels xs first)) (sym same_scan)
      (runs_same w.scan w.buffers.levels v.buffers.levels xs first (o'.lengths.levels ∙ ap near_len h.far_alike.geometry ∙ sym o.lengths.levels) h.levels)
    where
      same_scan : v.scan ≡ w.scan
      same_scan = λ i. record { geometry = h.far_alike.geometry i; far = h.far_alike.far i; near = h.near i; verdict = h.verdict i }

  -- the answer and the state are the same
  pub run_answers : (handed v.scan v.buffers.levels xs first).handed ≡ (handed w.scan w.buffers.levels xs first).handed
  run_answers = same_run.handed

  pub run_agrees : Agree wide narrow (after_run w xs first) (after_run v xs first)
  run_agrees =
      record {
        far_alike = run_far wide narrow w v xs first h.far_alike;
        near = ap (λ (r : Handed). r.scan.near) same_run.handed;
        verdict = ap (λ (r : Handed). r.scan.verdict) same_run.handed;
        levels = same_run.levels;
        lag_sums = h.lag_sums;
      }

-- ---- what a world keeps by itself

module _ (slack : ℕ) where
  own_all : (xs : List Float) (w : World) (index : ℕ) → AllF32 xs → Own slack w → Own slack (after slack w (as_items xs index))
  unfolding after
  own_all [] w index t o = o
  own_all (x ∷ xs) w index t o = own_all xs (called slack w (deed (near x index))).world (index + 1) t.1 (own_kept slack w o (deed (near x index)) t.0)

  pub run_own : (w : World) (xs : List Float) (first : ℕ) → AllF32 xs → Own slack w → Own slack (after_run w xs first)
  run_own w xs first t o = go (eqb n none) refl
    where
      n : ℕ
      n = run_refusal w.scan w.buffers.levels xs first

      taken : ℕ
      taken = taken_in (handed w.scan w.buffers.levels xs first).handed.answer

      go : (b : Bool) → eqb (run_refusal w.scan w.buffers.levels xs first) none ≡ b → Own slack (after_run w xs first)
      go true e =
          subst (Own slack) (run_in_stream slack w xs first o.sum t (eqb-true n none e)).world
          (own_all (take taken xs) w first (all_f32 taken xs t) o)
      go false e = subst (Own slack) (sym (refused_in_stream w xs first (eqb-false n none e))) o
