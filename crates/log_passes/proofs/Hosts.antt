-- Request b: any host that hands the bytes of two logs to these calls ends in `parting` of their lines.
use Prim.Native.Nat.{ℕ, ◌^◌, ◌≤◌, ◌<◌}
use mathlib.Core.Path.{◌≡◌, refl, sym, ap, ◌∙◌}
use mathlib.Core.List.{List, [], ◌∷◌, map}
use native.Mathlib.Omega.{arith}
use lib.ListN.{length, take}
use Rattle.log_lines.specs.Lines.{text_of}
use Rattle.log_lines.specs.declared.Line.{Line}
use Rattle.log_text.specs.Apart as places
use Rattle.log_text.specs.Text.{lines_of}
use Rattle.answers.specs.Pick.{pick_case}
use Rattle.log_parts.specs.Sorts.{is_of, of_sort, AllRanged}
use Rattle.log_parts.specs.Named.{Named, Lines, NotALog, named, GoodLog}
use Rattle.log_parts.specs.Judged.{least_after}
use Rattle.log_parts.specs.Numbers.{differing, first_by_number}
use Rattle.log_parts.specs.Merge.{merge}
use Rattle.log_parts.specs.Parts.{by_order, Parted, NotALogLine, Parts, report_of, compared, judged, parting}
use Rattle.log_parts.specs.declared.Sort.{Sort}
use Rattle.log_parts.specs.declared.Sort.TheVariants.{Headers, Frames, Cycles, Refusals, Closings}
use Rattle.log_parts.specs.declared.Tally.{Tally}
use Rattle.log_parts.specs.declared.Report.{Report}
use Rattle.log_parts.proofs.Named.{line_read, named_exactly}
use Rattle.log_parts.proofs.Merges.{clash, merges}
use Rattle.log_parts.proofs.InOrder.{merge_orders, Plain, plain_sort}
use Rattle.log_parts.proofs.Parts.{compares}
use Rattle.log_passes.specs.Judging.{unread}
use Rattle.log_passes.specs.Passing.{unbegun}
use Rattle.log_passes.specs.Hosts.{Heard, Fine, Stops, heard, Judges, Equal, From, ordered, Passes, Hosted, first_strange, second_strange, same, parts, shortened}
use Rattle.log_passes.proofs.Judges.{judges}
use Rattle.log_passes.proofs.Orders.{orders}
use Rattle.log_passes.proofs.Walks.{known, lines, passes}

-- ---- a log that was judged good

-- what the judge heard is what is named
heard_is : (a : List ℕ) (h : Heard) → length (lines_of a) < 2 ^ 63 → Judges unread a h → h ≡ heard (named (lines_of a))
unfolding named least_after
heard_is a h n w = judges unread a h w (omega (arith, n))

fine : (n : Named) → Fine ≡ heard n → (ls : List Line) × (n ≡ Lines ls)
fine (Lines ls) e = (ls, refl)
fine (NotALog k t) e = clash (cc)

stops : (n : Named) (k : ℕ) (t : List ℕ) → Stops k t ≡ heard n → (u : List ℕ) × (n ≡ NotALog k u) × (t ≡ take 76 u)
stops (Lines ls) k t e = clash (cc)
stops (NotALog i u) k t e = (u, ap (λ (z : ℕ). NotALog z u) (cc), cc)

-- ---- the lines of a good log

known_back : (ls : List Line) → AllRanged ls → known (map text_of ls) ≡ ls
unfolding known
known_back [] r = refl
known_back (l ∷ ls) r = rw ((line_read (text_of l)).whole l (record { spelt = refl; ranged = r.0 }), known_back ls r.1)

lines_of_lem : (s : Sort) (a : List ℕ) (ls : List Line) → GoodLog (lines_of a) ls → lines s a ≡ of_sort s ls
lines_of_lem s a ls g = ap (λ (ts : List (List ℕ)). of_sort s (known ts)) g.texts ∙ ap (of_sort s) (known_back ls g.ranged)

-- no more lines of a sort than lines
fewer : (s : Sort) (ls : List Line) → length (of_sort s ls) ≤ length ls
unfolding of_sort
fewer s [] = omega arith
fewer s (l ∷ ls) = pick_case (λ (k : List Line). length k ≤ length (l ∷ ls)) (is_of s l) _ _ (λ e. omega (arith, fewer s ls)) (λ e. omega (arith, fewer s ls))

as_many : (ls : List Line) → length (map text_of ls) ≡ length ls
as_many [] = refl
as_many (l ∷ ls) = omega (arith, as_many ls)

module _ (a b : List ℕ) (la lb : List Line) (ga : GoodLog (lines_of a) la) (gb : GoodLog (lines_of b) lb) (na : length (lines_of a) < 2 ^ 63) (nb : length (lines_of b) < 2 ^ 63) where
  -- a pass comes to the merge of the logs' lines of its sort
  merge_is : (s : Sort) (t : Tally) → Passes s unbegun a b t → t ≡ merge (of_sort s la) (of_sort s lb)
  unfolding merge
  merge_is s t w =
      let x = lines_of_lem s a la ga in
      let y = lines_of_lem s b lb gb in
      let m : length (lines_of a) ≡ length la = ap length ga.texts ∙ as_many la in
      let n : length (lines_of b) ≡ length lb = ap length gb.texts ∙ as_many lb in
      passes s unbegun a b t w (omega (arith, na, nb, m, n, ap length x, ap length y, fewer s la, fewer s lb)) _ (omega arith)
      ∙ ap (λ (l : List Line). merge l (lines s b)) x ∙ ap (merge (of_sort s la)) y

  by_number : (s : Sort) (t : Tally) → merge (of_sort s la) (of_sort s lb) ≡ record { count = differing (of_sort s la) (of_sort s lb); first = first_by_number (of_sort s la) (of_sort s lb) } → Passes s unbegun a b t
      → (t.count ≡ differing (of_sort s la) (of_sort s lb)) × (t.first ≡ first_by_number (of_sort s la) (of_sort s lb))
  by_number s t e w = (ap (λ (u : Tally). u.count) (merge_is s t w ∙ e), ap (λ (u : Tally). u.first) (merge_is s t w ∙ e))

  by_order_lem : (s : Sort) (t : Tally) → Plain s → Passes s unbegun a b t → t.first ≡ by_order (of_sort s la) (of_sort s lb)
  by_order_lem s t p w = ap (λ (u : Tally). u.first) (merge_is s t w) ∙ merge_orders (of_sort s la) (of_sort s lb) (plain_sort s p la) (plain_sort s p lb)

  report_is : (k : ℕ) (h f c r l : Tally) → Passes Headers unbegun a b h → Passes Frames unbegun a b f → Passes Cycles unbegun a b c → Passes Refusals unbegun a b r → Passes Closings unbegun a b l
      → ◌≡◌ {A = Report} (record {
        headers = h.first;
        frames = f.first;
        cycles = c.first;
        refusals = r.first;
        closings = l.first;
        differing_frames = f.count;
        differing_cycles = c.count;
        place = k;
      }) (report_of la lb k)
  unfolding report_of
  report_is k h f c r l wh wf wc wr wl =
      let frames = by_number Frames f (merges 0 (of_sort Frames la) (of_sort Frames lb) ga.frames_rise gb.frames_rise) wf in
      let cycles = by_number Cycles c (merges 0 (of_sort Cycles la) (of_sort Cycles lb) ga.cycles_rise gb.cycles_rise) wc in
      rw (by_order_lem Headers h (record {}) wh, frames.1, cycles.1, by_order_lem Refusals r (record {}) wr, by_order_lem Closings l (record {}) wl, frames.0, cycles.0)

equal : (r : places.Apart) → Equal ≡ ordered r → r ≡ places.Same
equal places.Same e = refl
equal (places.At k x y) e = clash (cc)

from : (r : places.Apart) (k : ℕ) → From k ≡ ordered r → (x y : places.Side) × (r ≡ places.At k x y)
from places.Same k e = clash (cc)
from (places.At i x y) k e = (x, y, ap (λ (z : ℕ). places.At z x y) (cc))

-- ---- the whole

-- of two logs of fewer than 2^63 lines each, whatever a host holds at each step
pub parted_is : (a b : List ℕ) (p : Parted) → length (lines_of a) < 2 ^ 63 → length (lines_of b) < 2 ^ 63 → Hosted a b p → p ≡ shortened (parting (lines_of a) (lines_of b))
unfolding parting
parted_is a b p na nb w = each w
  where
    each : {p : Parted} → Hosted a b p → p ≡ shortened (parting (lines_of a) (lines_of b))
    each (first_strange k t w) =
        let s = stops (named (lines_of a)) k t (heard_is a (Stops k t) na w) in
        ap (NotALogLine 1 k) s.2 ∙ ap (λ (n : Named). shortened (judged n (named (lines_of b)) (places.first_apart 1 (lines_of a) (lines_of b)))) (sym s.1)
    each (second_strange k t v w) =
        let f = fine (named (lines_of a)) (heard_is a Fine na v) in
        let s = stops (named (lines_of b)) k t (heard_is b (Stops k t) nb w) in
        ap (NotALogLine 2 k) s.2
        ∙ ap (λ (n : Named). shortened (judged (Lines f.0) n (places.first_apart 1 (lines_of a) (lines_of b)))) (sym s.1)
        ∙ ap (λ (n : Named). shortened (judged n (named (lines_of b)) (places.first_apart 1 (lines_of a) (lines_of b)))) (sym f.1)
    each (same v w o) =
        let f = fine (named (lines_of a)) (heard_is a Fine na v) in
        let g = fine (named (lines_of b)) (heard_is b Fine nb w) in
        let e = equal (places.first_apart 1 (lines_of a) (lines_of b)) (orders 1 a b Equal o (omega (arith, na))) in
        ap shortened (sym (compares (lines_of a) (lines_of b) f.0 g.0 ((named_exactly (lines_of a) f.0).0 f.1) ((named_exactly (lines_of b) g.0).0 g.1) ∙ ap (compared f.0 g.0) e))
    each (parts k h f c r l v w o ph pf pc pr pl) =
        let x = fine (named (lines_of a)) (heard_is a Fine na v) in
        let y = fine (named (lines_of b)) (heard_is b Fine nb w) in
        let ga = (named_exactly (lines_of a) x.0).0 x.1 in
        let gb = (named_exactly (lines_of b) y.0).0 y.1 in
        let e = from (places.first_apart 1 (lines_of a) (lines_of b)) k (orders 1 a b (From k) o (omega (arith, na))) in
        ap Parts (report_is a b x.0 y.0 ga gb na nb k h f c r l ph pf pc pr pl)
        ∙ ap shortened (sym (compares (lines_of a) (lines_of b) x.0 y.0 ga gb ∙ ap (compared x.0 y.0) e.2))
