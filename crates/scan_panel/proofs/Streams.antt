-- Demand 3 of the profile: its calls are the scan's at its slack, and a run stands for single calls, so that they are a stream of demand 3.
use Prim.Native.Nat.{ℕ}
use mathlib.Core.Path.{◌≡◌, refl, sym, ap, ◌∙◌, subst}
use mathlib.Core.List.{List, [], ◌∷◌, ◌++◌}
use mathlib.Core.Bool.{Bool, true, false}
use lib.Dec.{eqb}
use lib.ListN.{take}
use lib.Ieee.{Float}
use borrow.Author.Tests.{eqb-true, eqb-false}
use Rattle.answers.specs.Refusals.{none}
use Rattle.scan.specs.Bins.{geometry_of}
use Rattle.scan.specs.State.{World}
use Rattle.scan.specs.Blocks.{held_at}
use Rattle.scan.specs.Steps.{rearm, deed, Response, called}
use Rattle.scan.specs.Streams.{AllF32, Item, own, foreign, after, answers, Began, resumed}
use Rattle.scan.specs.declared.Geometry.{Geometry}
use Rattle.scan.proofs.Fresh.{began}
use Rattle.scan.proofs.Forgets.{forgets}
use Rattle.scan_handover.specs.declared.RunTaking.TheVariants as taking
use Rattle.scan_handover.specs.Handover.{lead, run_refusal, NearRun, unchanged, handed}
use Rattle.scan_handover.specs.Singles.{taken_in, singly}
use Rattle.scan_handover.specs.InStreams.{as_items, as_responses}
use Rattle.scan_handover.proofs.Calls.{not_handed}
use Rattle.scan_handover.proofs.InStreams.{run_in_stream}
use Rattle.scan_panel.specs.Panel.{panel_slack, panel_table, allows}
use Rattle.scan_panel.specs.Feeds.{Fed, call, run, Feeding, stepped, ran, fed, panel_fed, Typed, AllTyped, panel_after, panel_answers}
use Rattle.scan_panel.specs.Streams.{items_for, items_in, spelled, spelled_in, panel_resumed, PanelForgets}
use Rattle.scan_panel.proofs.Panel.{panel_called_lem, panel_handed_lem}
use Rattle.scan_panel.proofs.Rules.{allows_stays, SumFits, none_fits, sum_stays, run_sum_stays, beside}

-- ---- a call of the profile

-- on allowed settings it is the scan's at the profile's slack
pub panel_fed_lem : (v : World) (f : Fed) → allows v.scan ≡ true → panel_fed v f ≡ fed panel_slack v f
unfolding panel_fed fed
panel_fed_lem v (call c) t = ap stepped (panel_called_lem v c t)
panel_fed_lem v (run xs first) t = ap (ran v) (panel_handed_lem v.scan v.buffers.levels xs first t)

pub fed_allows : (v : World) (f : Fed) → allows v.scan ≡ true → allows (fed panel_slack v f).world.scan ≡ true
unfolding fed
fed_allows v (call c) t = allows_stays panel_slack v c t
fed_allows v (run xs first) t = ap (λ (h : Geometry). panel_table h.rate h.ceiling) (beside v.scan v.buffers.levels xs first).geometry ∙ t

fed_sum : (v : World) (f : Fed) → SumFits v.scan → SumFits (fed panel_slack v f).world.scan
unfolding fed
fed_sum v (call c) s = sum_stays panel_slack v s c
fed_sum v (run xs first) s = run_sum_stays panel_slack v s xs first

-- what the calls keep
pub record Kept (v : World) : Type 0 where
  pub allowed : allows v.scan ≡ true
  pub sum : SumFits v.scan

pub kept : (v : World) (f : Fed) → Kept v → Kept (panel_fed v f).world
kept v f k = subst (λ (s : Feeding). Kept s.world) (sym (panel_fed_lem v f k.allowed)) (record { allowed = fed_allows v f k.allowed; sum = fed_sum v f k.sum })

-- ---- it stands for its items

record Stands (v : World) (f : Fed) (s : Feeding) : Type 0 where
  world : after panel_slack v (items_for v f) ≡ s.world
  told : answers panel_slack v (items_for v f) ≡ spelled v f s.answer

-- a run with this result
abbrev StandsFor : World → List Float → ℕ → NearRun → Type 0
StandsFor v xs first r =
    let items = as_items (take (taken_in r.handed.answer) xs) first in
    (after panel_slack v items ≡ (ran v r).world) × (answers panel_slack v items ≡ as_responses (singly (lead v.scan.geometry (held_at v.scan.near first) first) r.handed.answer))

refused_stands : (v : World) (xs : List Float) (first n : ℕ) → StandsFor v xs first (unchanged v.scan v.buffers.levels (taking.Refused n))
unfolding after answers
refused_stands v xs first n = (refl, refl)

run_stands : (v : World) (xs : List Float) (first : ℕ) → SumFits v.scan → AllF32 xs → StandsFor v xs first (handed v.scan v.buffers.levels xs first)
run_stands v xs first s t = go (eqb n none) refl
  where
    n : ℕ
    n = run_refusal v.scan v.buffers.levels xs first

    go : (b : Bool) → eqb (run_refusal v.scan v.buffers.levels xs first) none ≡ b → StandsFor v xs first (handed v.scan v.buffers.levels xs first)
    go true e = let r = run_in_stream panel_slack v xs first s t (eqb-true n none e) in (r.world, r.told)
    go false e = subst (StandsFor v xs first) (not_handed v.scan v.buffers.levels xs first refl (eqb-false n none e)) (refused_stands v xs first n)

stands : (v : World) (f : Fed) → Kept v → Typed f → Stands v f (panel_fed v f)
unfolding fed after answers
stands v (call c) k t = subst (Stands v (call c)) (sym (panel_fed_lem v (call c) k.allowed)) (record { world = refl; told = refl })
stands v (run xs first) k t = let r = run_stands v xs first k.sum t in subst (Stands v (run xs first)) (sym (panel_fed_lem v (run xs first) k.allowed)) (record { world = r.0; told = r.1 })

-- ---- calls in turn

after_append : (slack : ℕ) (items more : List Item) (w : World) → after slack w (items ++ more) ≡ after slack (after slack w items) more
unfolding after
after_append slack [] more w = refl
after_append slack (own c ∷ items) more w = after_append slack items more (called slack w c).world
after_append slack (foreign v c ∷ items) more w = after_append slack items more w

answers_append : (slack : ℕ) (items more : List Item) (w : World) → answers slack w (items ++ more) ≡ answers slack w items ++ answers slack (after slack w items) more
unfolding answers after
answers_append slack [] more w = refl
answers_append slack (own c ∷ items) more w = ap (λ (l : List Response). (called slack w c).response ∷ l) (answers_append slack items more (called slack w c).world)
answers_append slack (foreign v c ∷ items) more w = answers_append slack items more w

pub all_kept : (calls : List Fed) (v : World) → Kept v → Kept (panel_after v calls)
unfolding panel_after
all_kept [] v k = k
all_kept (f ∷ calls) v k = all_kept calls (panel_fed v f).world (kept v f k)

after_items : (calls : List Fed) (v : World) → Kept v → AllTyped calls → after panel_slack v (items_in v calls) ≡ panel_after v calls
unfolding items_in panel_after
after_items [] v k t = (unfold after in refl)
after_items (f ∷ calls) v k t =
    after_append panel_slack (items_for v f) (items_in (panel_fed v f).world calls) v
    ∙ ap (λ (z : World). after panel_slack z (items_in (panel_fed v f).world calls)) (stands v f k t.0).world
    ∙ after_items calls (panel_fed v f).world (kept v f k) t.1

answers_items : (calls : List Fed) (v : World) → Kept v → AllTyped calls → answers panel_slack v (items_in v calls) ≡ spelled_in v calls (panel_answers v calls)
unfolding items_in spelled_in panel_answers
answers_items [] v k t = (unfold answers in refl)
answers_items (f ∷ calls) v k t =
    let s = stands v f k t.0 in
    answers_append panel_slack (items_for v f) (items_in (panel_fed v f).world calls) v
    ∙ ap (λ (z : World). answers panel_slack v (items_for v f) ++ answers panel_slack z (items_in (panel_fed v f).world calls)) s.world
    ∙ (λ i. s.told i ++ answers_items calls (panel_fed v f).world (kept v f k) t.1 i)

-- ---- demand 3

pub began_kept : (rate ceiling : ℕ) (v : World) → panel_table rate ceiling ≡ true → Began panel_slack rate ceiling v → Kept v
unfolding geometry_of
began_kept rate ceiling v t b = subst Kept (sym (began panel_slack rate ceiling v b).is) (record { allowed = t; sum = none_fits })

pub panel_forgets : PanelForgets
unfolding fed
panel_forgets rate ceiling block v earlier later t e l s =
    let k = began_kept rate ceiling v t s.began in
    let r : resumed panel_slack v (items_in v earlier) ≡ panel_resumed v earlier =
    ap (λ (z : World). (called panel_slack z (deed rearm)).world) (after_items earlier v k e) ∙ ap (λ (z : Feeding). z.world) (sym (panel_fed_lem (panel_after v earlier) (call (deed rearm)) (all_kept earlier v k).allowed)) in
    sym (answers_items later (panel_resumed v earlier) (kept _ (call (deed rearm)) (all_kept earlier v k)) l)
    ∙ ap (λ (z : World). answers panel_slack z (items_in (panel_resumed v earlier) later)) (sym r)
    ∙ forgets panel_slack rate ceiling block v (items_in v earlier) (items_in (panel_resumed v earlier) later) s
