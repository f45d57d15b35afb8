-- A list of calls of the pair is, for channel d, the list of its own calls and the common ones on a scan with scratch of its own (`projects`).
use Prim.Native.Nat.{ℕ, ◌+◌, ◌*◌, ◌≤◌}
use mathlib.Core.Path.{◌≡◌, refl, sym, ap, ap₂, ◌∙◌, subst}
use mathlib.Core.List.{List, [], ◌∷◌, ◌++◌}
use lib.Dec.{T, eqb}
use lib.Ieee.{Float}
use Rattle.answers.specs.Pick.{pick}
use Rattle.answers.specs.Refusals.{none}
use Rattle.scan.specs.State.{World}
use Rattle.scan.specs.Steps.{Call, deed, Response, refusal_of, called}
use Rattle.scan.specs.Steps as base
use Rattle.scan.specs.Streams.{Item, after, answers, heard, brought_by, FairCall, Fair, begins, LateDeed, LateCall, Late, CleanCall, clean_call, cleaned}
use Rattle.scan.specs.declared.Scan.{Scan}
use Rattle.scan.proofs.Scratch.{ScratchAlike, called_scratch}
use Rattle.scan_pair.specs.State.{Side, first, second, Named, channel, unknown, named, PairWorld, seen}
use Rattle.scan_pair.specs.Steps.{Own, PairCall, on, far, reset, settings, pair_called}
use Rattle.scan_pair.specs.Streams.{PairItem, own, foreign, pair_after, Share, its, others, own_share, share, with_answer, answers_to, PairF32Call, F32Items, NoReset, PairFair, with_item, items_of, pair_brought, pair_heard, with_clean, pair_cleaned, LateShare, PairLate}
use Rattle.scan_pair.proofs.Together.{PairSound, reset_accepts}
use Rattle.scan_pair.proofs.Steps.{alike_between, Stepped, fair_own, stepped, stays_sound}

-- what a list of the pair comes to, beside the list of a scan
pub record Projected (slack : ℕ) (d : Side) (said : List Response) (brought : List Float) (calls : ℕ → List CleanCall) (left : PairWorld) (fair : Type 0) (late : ℕ → Type 0) (v : World) (items : List Item) : Type 0 where
  pub said_same : said ≡ answers slack v items
  pub brought_same : brought ≡ heard slack v items
  pub calls_same : (known : ℕ) → calls known ≡ cleaned slack known v items
  pub left_alike : ScratchAlike (seen left d) (after slack v items)
  pub fair_too : fair → Fair slack v items
  pub late_too : (block : ℕ) → late block → Late slack block v items

abbrev pub ProjectedBy : ℕ → Side → PairWorld → List PairItem → World → Type 0
ProjectedBy slack d w items v =
    Projected slack d (answers_to d slack w items) (pair_heard slack w items) (λ known. pair_cleaned d slack known w items) (pair_after slack w items) (PairFair slack w items) (λ block. PairLate d slack block w items) v (items_of d items)

-- ---- one call, on a scan whose scratch holds anything

module _ (slack : ℕ) (w : PairWorld) (d : Side) (v : World) (h : ScratchAlike (seen w d) v) where
  abbrev u : World
  u = seen w d

  clean_same : (known : ℕ) (c : Call) → clean_call known u c ≡ clean_call known v c
  clean_same known (base.far xs) = ap (λ (s : Scan). clean_call known (record { scan = s; buffers = u.buffers }) (base.far xs)) (sym h.scan)
  clean_same known (deed k) = refl

  late_deed : (block : ℕ) (k : base.Deed) → LateDeed slack block u k → LateDeed slack block v k
  late_deed block (base.near x index) l = λ a. subst (λ (s : Scan). T (begins s index) → (block + s.geometry.span) * s.geometry.decimation ≤ index) (sym h.scan) (l (ap refusal_of (sym (called_scratch slack u v (deed (base.near x index)) h).response) ∙ a))
  late_deed block base.score l = tt
  late_deed block base.rearm l = tt
  late_deed block base.discard l = tt
  late_deed block base.reset l = tt
  late_deed block (base.ask r) l = tt

  late_call : (block : ℕ) (c : Call) → LateCall slack block u c → LateCall slack block v c
  late_call block (base.far xs) l = tt
  late_call block (deed k) l = late_deed block k l

  -- a far push brings the same
  abbrev Brings : PairCall → Share → Type 0
  Brings c (its b) = (pair_called slack w c).response ≡ (called slack v b).response → pair_brought slack w c ≡ brought_by slack v b
  Brings c others = pair_brought slack w c ≡ []

  own_brings : (c : ℕ) (e : Side) (n : Named) (k : Own) → Brings (on c k) (own_share e n k)
  own_brings c first (channel first) k = λ r. refl
  own_brings c first (channel second) k = refl
  own_brings c second (channel first) k = refl
  own_brings c second (channel second) k = λ r. refl
  own_brings c first unknown k = refl
  own_brings c second unknown k = refl

  brings : (c : PairCall) → Brings c (share d c)
  unfolding share
  brings (on c k) = own_brings c d (named c) k
  brings (far xs) = λ r. ap (λ (a : Response). pick (eqb (refusal_of a) none) xs []) r
  brings reset = λ r. refl
  brings (settings q) = λ r. refl

  -- a fair call is a fair call of the scan: a reset would have been accepted
  abbrev FairToo : PairCall → Share → Type 0
  FairToo c (its b) = PairF32Call c → NoReset slack w c → FairCall slack v b
  FairToo c others = Unit {0}

  own_fair : (c : ℕ) (e : Side) (n : Named) (k : Own) → FairToo (on c k) (own_share e n k)
  own_fair c first (channel first) k = λ f r. fair_own slack w v k f
  own_fair c first (channel second) k = tt
  own_fair c second (channel first) k = tt
  own_fair c second (channel second) k = λ f r. fair_own slack w v k f
  own_fair c first unknown k = tt
  own_fair c second unknown k = tt

  fair_call : PairSound slack w → (c : PairCall) → FairToo c (share d c)
  unfolding share
  fair_call s (on c k) = own_fair c d (named c) k
  fair_call s (far xs) = λ f r. f
  fair_call s reset = λ f r. absurd (r (reset_accepts slack w s))
  fair_call s (settings q) = λ f r. tt

  -- what a call and then a list come to, where the call is z for channel d
  abbrev OneMore : PairCall → List PairItem → Share → Type 0
  OneMore c items z =
      let w' = (pair_called slack w c).world in
      Projected slack d (with_answer z (pair_called slack w c).response (answers_to d slack w' items)) (pair_brought slack w c ++ pair_heard slack w' items)
      (λ known. with_clean known u z (pair_cleaned d slack known w' items)) (pair_after slack w' items)
      (PairF32Call c × NoReset slack w c × PairFair slack w' items) (λ block. LateShare slack block u z × PairLate d slack block w' items) v (with_item z (items_of d items))

  one_more : (c : PairCall) (items : List PairItem) (z : Share) → Stepped slack w d (pair_called slack w c) z → Brings c z → FairToo c z
      → ((v' : World) → ScratchAlike (seen (pair_called slack w c).world d) v' → ProjectedBy slack d (pair_called slack w c).world items v') → OneMore c items z
  unfolding answers heard cleaned after
  one_more c items (its b) o m f go =
      let q = called_scratch slack u v b h in
      let r : (pair_called slack w c).response ≡ (called slack v b).response = o.response ∙ sym q.response in
      let rest = go (called slack v b).world (subst (λ (z : World). ScratchAlike z (called slack v b).world) (sym o.world) q.world) in
      record {
        said_same = ap₂ {A = Response} {B = List Response} (λ (a : Response) (l : List Response). a ∷ l) r rest.said_same;
        brought_same = ap₂ {A = List Float} {B = List Float} (λ (a b : List Float). a ++ b) (m r) rest.brought_same;
        calls_same = λ known. ap₂ {A = CleanCall} {B = List CleanCall} (λ (a : CleanCall) (l : List CleanCall). a ∷ l) (clean_same known b) (rest.calls_same known);
        left_alike = rest.left_alike;
        fair_too = λ t. (f t.0 t.1, rest.fair_too t.2);
        late_too = λ block t. (late_call block b t.0, rest.late_too block t.1);
      }
  one_more c items others o m f go =
      let rest = go v (alike_between u (seen (pair_called slack w c).world d) v o h) in
      record {
        said_same = rest.said_same;
        brought_same = ap (λ (l : List Float). l ++ pair_heard slack (pair_called slack w c).world items) m ∙ rest.brought_same;
        calls_same = rest.calls_same;
        left_alike = rest.left_alike;
        fair_too = λ t. rest.fair_too t.2;
        late_too = λ block t. rest.late_too block t.1;
      }

-- ---- the list

pub projects : (slack : ℕ) (d : Side) (items : List PairItem) (w : PairWorld) (v : World) → PairSound slack w → F32Items items → ScratchAlike (seen w d) v → ProjectedBy slack d w items v
unfolding answers_to pair_heard pair_cleaned pair_after items_of
projects slack d [] w v s f h = (unfold answers heard cleaned after in record { said_same = refl; brought_same = refl; calls_same = λ known. refl; left_alike = h; fair_too = λ t. tt; late_too = λ block t. tt })
projects slack d (own c ∷ items) w v s f h =
    one_more slack w d v h c items (share d c) (stepped slack w s d c) (brings slack w d v h c) (fair_call slack w d v h s c)
    (λ v' h'. projects slack d items (pair_called slack w c).world v' (stays_sound slack w s c f.0) f.1 h')
projects slack d (foreign x c ∷ items) w v s f h =
    let rest = projects slack d items w v s f h in
    record { said_same = rest.said_same; brought_same = rest.brought_same; calls_same = rest.calls_same; left_alike = rest.left_alike; fair_too = λ t. rest.fair_too t.1; late_too = rest.late_too }

pub sound_after : (slack : ℕ) (items : List PairItem) (w : PairWorld) → PairSound slack w → F32Items items → PairSound slack (pair_after slack w items)
unfolding pair_after
sound_after slack [] w s f = s
sound_after slack (own c ∷ items) w s f = sound_after slack items (pair_called slack w c).world (stays_sound slack w s c f.0) f.1
sound_after slack (foreign x c ∷ items) w s f = sound_after slack items w s f
