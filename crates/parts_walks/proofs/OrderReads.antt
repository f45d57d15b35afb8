-- What the loop in order comes to is what a host comes to that holds the bytes which the windows brought.
use Prim.Native.Nat.{ℕ}
use mathlib.Core.Path.{◌≡◌, refl, sym, ap, subst, ◌∙◌}
use mathlib.Core.Bool.{Bool, true, false}
use mathlib.Core.List.{List, [], ◌++◌, append_assoc}
use lib.ListN.{take, drop}
use Rattle.answers.specs.Pick.{pick}
use Rattle.answers.specs.Numbers.{next_long_count}
use Rattle.pipes.specs.Window.{at_hand, over}
use Rattle.log_text.specs.Text.{same_text}
use Rattle.log_parts.proofs.Merges.{clash}
use Rattle.log_passes.specs.Taking.{taken_in}
use Rattle.log_passes.specs.Beside.{beside_texts, beside_first, if_more, beside_of, beside_in}
use Rattle.log_passes.specs.Hosts.{Holds, Ordered, Equal, From, Orders, goes, same, apart}
use Rattle.log_passes.specs.declared.taking.Taken.{Taken}
use Rattle.log_passes.specs.declared.taking.Taken.TheVariants as taken
use Rattle.log_passes.specs.declared.beside.Ask.{Ask}
use Rattle.log_passes.specs.declared.beside.Ask.TheVariants.{Goes, WantsFirst, WantsSecond, Same, Apart, Strange}
use Rattle.log_passes.specs.declared.beside.Beside.{Beside}
use Rattle.parts_walks.specs.Inputs.{BothMoved}
use Rattle.parts_walks.specs.Ordered.{order_answered, first_used, second_used, OrderTurned, OrderTurns, none, more}
use Rattle.parts_walks.specs.declared.inputs.Inputs.{Inputs}
use Rattle.parts_walks.specs.declared.order.Walk.{Walk}
use Rattle.pipes.proofs.Going.{nothing_came, nothing_comes, hand_on}
use Rattle.parts_walks.proofs.Moving.{holds, holds_last}

-- ---- only a line of each that is taken changes the place

abbrev Keeps : Ask → ℕ → ℕ → Type 0
Keeps (Goes u v) p q = Unit {0}
Keeps WantsFirst p q = q ≡ p
Keeps WantsSecond p q = q ≡ p
Keeps Same p q = q ≡ p
Keeps Apart p q = q ≡ p
Keeps Strange p q = q ≡ p

abbrev KeptIn : ℕ → Beside → Type 0
KeptIn p b = Keeps b.ask p b.place

kept_texts : (p : ℕ) (x : List ℕ) (u : ℕ) (y : List ℕ) (v : ℕ) → KeptIn p (beside_texts p x u y v)
unfolding beside_texts pick
kept_texts p x u y v = each (same_text x y)
  where
    each : (b : Bool) → KeptIn p (pick b (record { place = next_long_count p; ask = Goes u v }) (record { place = p; ask = Apart }))
    each true = record {}
    each false = refl

kept_first : (p : ℕ) (x : List ℕ) (u : ℕ) (second : List ℕ) (t : Taken) → KeptIn p (beside_first p x u second t)
unfolding beside_first
kept_first p x u second (taken.Text n v) = kept_texts p x u (take n second) v
kept_first p x u second taken.Nothing = refl
kept_first p x u second taken.Wants = refl
kept_first p x u second taken.Long = refl

kept_end : (p : ℕ) (t : Taken) → Keeps (if_more t) p p
unfolding if_more
kept_end p (taken.Text n v) = refl
kept_end p taken.Nothing = refl
kept_end p taken.Wants = refl
kept_end p taken.Long = refl

kept_of : (p : ℕ) (first : List ℕ) (t : Taken) (second : List ℕ) (t' : Taken) → KeptIn p (beside_of p first t second t')
unfolding beside_of
kept_of p first (taken.Text n u) second t' = kept_first p (take n first) u second t'
kept_of p first taken.Nothing second t' = kept_end p t'
kept_of p first taken.Wants second t' = refl
kept_of p first taken.Long second t' = refl

kept : (i : Inputs) (a b : List ℕ) (p q : ℕ) (l : Ask) → ◌≡◌ {A = Beside} (record { place = q; ask = l }) (order_answered p i a b) → Keeps l p q
unfolding beside_in
kept i a b p q l e = subst (KeptIn p) (sym e) (kept_of p (at_hand i.first a) (taken_in (at_hand i.first a) (over i.first)) (at_hand i.second b) (taken_in (at_hand i.second b) (over i.second)))

-- ---- one turn

module _ (p q : ℕ) (i i' : Inputs) (a b a' b' ra rb : List ℕ) (r : Ordered) (ea : over i'.first ≡ true → ra ≡ []) (eb : over i'.second ≡ true → rb ≡ [])
    (left : Orders q (at_hand i'.first a' ++ ra) (at_hand i'.second b' ++ rb) r) where
  -- the same that is left, as it stood behind the bytes that were used
  moved : (u v : ℕ) (m : BothMoved u v i a b i' a' b') → Orders q (drop u (at_hand i.first a) ++ (m.first.came ++ ra)) (drop v (at_hand i.second b) ++ (m.second.came ++ rb)) r
  moved u v m =
      subst (λ (t : List ℕ). Orders q t (drop v (at_hand i.second b) ++ (m.second.came ++ rb)) r) (hand_on u i.first i'.first a a' m.first ra)
      (subst (λ (t : List ℕ). Orders q (at_hand i'.first a' ++ ra) t r) (hand_on v i.second i'.second b b' m.second rb) left)

  unmoved : (m : BothMoved 0 0 i a b i' a' b') → q ≡ p → Orders p (at_hand i.first a ++ (m.first.came ++ ra)) (at_hand i.second b ++ (m.second.came ++ rb)) r
  unmoved m e = subst (λ (n : ℕ). Orders n (at_hand i.first a ++ (m.first.came ++ ra)) (at_hand i.second b ++ (m.second.came ++ rb)) r) e (moved 0 0 m)

  by_ask : (l : Ask) (m : BothMoved (first_used l) (second_used l) i a b i' a' b') → ◌≡◌ {A = Beside} (record { place = q; ask = l }) (order_answered p i a b)
      → Orders p (at_hand i.first a ++ (m.first.came ++ ra)) (at_hand i.second b ++ (m.second.came ++ rb)) r
  by_ask (Goes u v) m e =
      goes (at_hand i.first a) (m.first.came ++ ra) (over i.first) (at_hand i.second b) (m.second.came ++ rb) (over i.second) q u v
      (holds u i.first i'.first a a' m.first ra ea) (holds v i.second i'.second b b' m.second rb eb) (sym e) (moved u v m)
  by_ask WantsFirst m e = unmoved m (kept i a b p q WantsFirst e)
  by_ask WantsSecond m e = unmoved m (kept i a b p q WantsSecond e)
  by_ask Same m e = unmoved m (kept i a b p q Same e)
  by_ask Apart m e = unmoved m (kept i a b p q Apart e)
  by_ask Strange m e = unmoved m (kept i a b p q Strange e)

-- ---- turn after turn

pub reads_on : {w u : Walk} {a b a' b' x y : List ℕ} → OrderTurns w a b x y u a' b' → (ra rb : List ℕ) (r : Ordered) → (over u.inputs.first ≡ true → ra ≡ []) → (over u.inputs.second ≡ true → rb ≡ [])
    → Orders u.place (at_hand u.inputs.first a' ++ ra) (at_hand u.inputs.second b' ++ rb) r
    → Orders w.place (at_hand w.inputs.first a ++ (x ++ ra)) (at_hand w.inputs.second b ++ (y ++ rb)) r
reads_on none ra rb r ea eb left = left
reads_on {w} {u} {a} {b} {a'} {b'} (more {v = v} {a₁ = a₁} {b₁ = b₁} {x = x} {y = y} before one) ra rb r ea eb left =
    let m = one.done in
    subst (λ (l : List ℕ). Orders w.place l (at_hand w.inputs.second b ++ ((y ++ m.second.came) ++ rb)) r) (ap (λ (l : List ℕ). at_hand w.inputs.first a ++ l) (sym (append_assoc x m.first.came ra)))
    (subst (λ (l : List ℕ). Orders w.place (at_hand w.inputs.first a ++ (x ++ (m.first.came ++ ra))) l r) (ap (λ (l : List ℕ). at_hand w.inputs.second b ++ l) (sym (append_assoc y m.second.came rb)))
    (reads_on before (m.first.came ++ ra) (m.second.came ++ rb) r
    (nothing_comes _ v.inputs.first u.inputs.first a₁ a' m.first ra ea)
    (nothing_comes _ v.inputs.second u.inputs.second b₁ b' m.second rb eb)
    (by_ask v.place u.place v.inputs u.inputs a₁ b₁ a' b' ra rb r ea eb left u.ask m one.said)))

-- ---- the last turn

module _ {v u : Walk} {a b a' b' : List ℕ} (one : OrderTurned v a b u a' b') where
  said_at : (l : Ask) → u.ask ≡ l → order_answered v.place v.inputs a b ≡ record { place = u.place; ask = l }
  said_at l e = sym one.said ∙ ap (λ (k : Ask). record { place = u.place; ask = k }) e

  first_last : Holds (at_hand v.inputs.first a ++ one.done.first.came) (at_hand v.inputs.first a) one.done.first.came (over v.inputs.first)
  first_last = holds_last _ v.inputs.first u.inputs.first a a' one.done.first

  second_last : Holds (at_hand v.inputs.second b ++ one.done.second.came) (at_hand v.inputs.second b) one.done.second.came (over v.inputs.second)
  second_last = holds_last _ v.inputs.second u.inputs.second b b' one.done.second

  last_same : u.ask ≡ Same → Orders v.place (at_hand v.inputs.first a ++ one.done.first.came) (at_hand v.inputs.second b ++ one.done.second.came) Equal
  last_same e = same (at_hand v.inputs.first a) _ (over v.inputs.first) (at_hand v.inputs.second b) _ (over v.inputs.second) u.place first_last second_last (said_at Same e)

  last_apart : u.ask ≡ Apart → Orders v.place (at_hand v.inputs.first a ++ one.done.first.came) (at_hand v.inputs.second b ++ one.done.second.came) (From u.place)
  last_apart e =
      subst (λ (n : ℕ). Orders v.place (at_hand v.inputs.first a ++ one.done.first.came) (at_hand v.inputs.second b ++ one.done.second.came) (From n)) (sym (kept v.inputs a b v.place u.place Apart (sym (said_at Apart e))))
      (apart (at_hand v.inputs.first a) _ (over v.inputs.first) (at_hand v.inputs.second b) _ (over v.inputs.second) u.place first_last second_last (said_at Apart e))

-- the loop found no difference: of the bytes that came, behind those at hand, a host finds none
pub order_same : {w u : Walk} {a b a' b' x y : List ℕ} → w.ask ≡ WantsFirst → OrderTurns w a b x y u a' b' → u.ask ≡ Same
    → Orders w.place (at_hand w.inputs.first a ++ x) (at_hand w.inputs.second b ++ y) Equal
order_same first none last = clash (cc)
order_same first (more before one) last = reads_on before one.done.first.came one.done.second.came Equal (nothing_came _ _ _ _ _ one.done.first) (nothing_came _ _ _ _ _ one.done.second) (last_same one last)

-- it found one: a host finds it in the same place
pub order_apart : {w u : Walk} {a b a' b' x y : List ℕ} → w.ask ≡ WantsFirst → OrderTurns w a b x y u a' b' → u.ask ≡ Apart
    → Orders w.place (at_hand w.inputs.first a ++ x) (at_hand w.inputs.second b ++ y) (From u.place)
order_apart first none last = clash (cc)
order_apart {u = u} first (more before one) last = reads_on before one.done.first.came one.done.second.came (From u.place) (nothing_came _ _ _ _ _ one.done.first) (nothing_came _ _ _ _ _ one.done.second) (last_apart one last)
