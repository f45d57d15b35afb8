-- A host that goes by `beside_next` comes to the first place where the two lists of lines differ.
use Prim.Native.Nat.{ℕ, ◌+◌, ◌^◌, ◌<◌}
use mathlib.Core.Path.{◌≡◌, sym, ap, subst, ◌∙◌}
use mathlib.Core.Bool.{Bool}
use mathlib.Core.List.{List, [], ◌∷◌, ◌++◌}
use native.Mathlib.Omega.{arith}
use lib.ListN.{length, take, drop}
use Rattle.answers.specs.Numbers.{next_long_count}
use Rattle.answers.specs.Pick.{pick_true, pick_false, pick_case}
use Rattle.log_text.specs.Apart as places
use Rattle.log_text.specs.Text.{same_text, lines_of}
use Rattle.log_text.specs.Cut.{Behind}
use Rattle.log_passes.specs.Taking.{taken_in}
use Rattle.log_passes.specs.Beside.{beside_texts, beside_first, if_more, beside_of, beside_in}
use Rattle.log_passes.specs.Hosts.{Ordered, Equal, From, ordered, Orders, goes, same, apart}
use Rattle.log_passes.specs.declared.taking.Taken.{Taken}
use Rattle.log_passes.specs.declared.taking.Taken.TheVariants as taken
use Rattle.log_passes.specs.declared.beside.Ask.{Ask}
use Rattle.log_passes.specs.declared.beside.Ask.TheVariants as ask
use Rattle.log_passes.specs.declared.beside.Beside.{Beside}
use Rattle.log_passes.proofs.Hands.{Next, Took, took}

-- where the texts that are left part
abbrev left : ℕ → List ℕ → List ℕ → Ordered
left place a b = ordered (places.first_apart place (lines_of a) (lines_of b))

-- what an answer says of what is left
abbrev SaysOf : ℕ → List ℕ → List ℕ → List ℕ → List ℕ → ℕ → Ask → Type 0
SaysOf place h m i n next (ask.Goes u v) =
    (left place (h ++ m) (i ++ n) ≡ left next (drop u h ++ m) (drop v i ++ n))
    × (next ≡ place + 1)
    × (length (lines_of (h ++ m)) ≡ length (lines_of (drop u h ++ m)) + 1)
SaysOf place h m i n next ask.WantsFirst = Unit {0}
SaysOf place h m i n next ask.WantsSecond = Unit {0}
SaysOf place h m i n next ask.Same = left place (h ++ m) (i ++ n) ≡ Equal
SaysOf place h m i n next ask.Apart = left place (h ++ m) (i ++ n) ≡ From place
SaysOf place h m i n next ask.Strange = Unit {0}

abbrev Says : ℕ → List ℕ → List ℕ → List ℕ → List ℕ → Beside → Type 0
Says place h m i n b = SaysOf place h m i n b.place b.ask

module _ (place : ℕ) (h m i n : List ℕ) (bound : place + 1 < 2 ^ 64) where
  texts : (k u l v : ℕ) → Next h m k u → Next i n l v → Says place h m i n (beside_texts place (take k h) u (take l i) v)
  unfolding beside_texts places.first_apart
  texts k u l v p q =
      let up : next_long_count place ≡ place + 1 = omega (arith, bound) in
      let both : left place (h ++ m) (i ++ n) ≡ ordered (places.first_apart place (take k h ∷ lines_of (drop u h ++ m)) (take l i ∷ lines_of (drop v i ++ n))) = rw (p.lines, q.lines) in
      pick_case (Says place h m i n) (same_text (take k h) (take l i)) _ _
      (λ e. (both ∙ ap ordered (pick_true _ _ _ e) ∙ ap (λ (j : ℕ). left j (drop u h ++ m) (drop v i ++ n)) (sym up), up, omega (arith, ap length p.lines)))
      (λ e. both ∙ ap ordered (pick_false _ _ _ e))

  first : (k u : ℕ) (t : Taken) → Next h m k u → Took i n t → Says place h m i n (beside_first place (take k h) u i t)
  unfolding beside_first places.first_apart
  first k u (taken.Text l v) p q = texts k u l v p q
  first k u taken.Nothing p q = rw (p.lines, q)
  first k u taken.Wants p q = record {}
  first k u taken.Long p q = record {}

  ends : (t : Taken) → lines_of (h ++ m) ≡ [] → Took i n t → SaysOf place h m i n place (if_more t)
  unfolding if_more places.first_apart
  ends (taken.Text l v) p q = rw (p, q.lines)
  ends taken.Nothing p q = rw (p, q)
  ends taken.Wants p q = record {}
  ends taken.Long p q = record {}

  says : (s t : Taken) → Took h m s → Took i n t → Says place h m i n (beside_of place h s i t)
  unfolding beside_of
  says (taken.Text k u) t p q = first k u t p q
  says taken.Nothing t p q = ends t p q
  says taken.Wants t p q = record {}
  says taken.Long t p q = record {}

-- whatever a host holds at each step
pub orders : (place : ℕ) (a b : List ℕ) (r : Ordered) → Orders place a b r → place + length (lines_of a) + 1 < 2 ^ 64 → r ≡ left place a b
unfolding beside_in
orders place a b r w k = each w k
  where
    told : (place : ℕ) (h m : List ℕ) (e : Bool) (i n : List ℕ) (f : Bool) (next : ℕ) (o : Ask) → Behind e m → Behind f n → place + 1 < 2 ^ 64
        → beside_in place h e i f ≡ record { place = next; ask = o } → SaysOf place h m i n next o
    told place h m e i n f next o b c k q = subst (Says place h m i n) q (says place h m i n k (taken_in h e) (taken_in i f) (took h m e b) (took i n f c))

    here : (place : ℕ) (a b h m i n : List ℕ) → a ≡ h ++ m → b ≡ i ++ n → left place (h ++ m) (i ++ n) ≡ left place a b
    here place a b h m i n p q = rw (p, q)

    each : {place : ℕ} {a b : List ℕ} {r : Ordered} → Orders place a b r → place + length (lines_of a) + 1 < 2 ^ 64 → r ≡ left place a b
    each {place} {a} {b} (goes h m e i n f next u v p q c w) k =
        let s = told place h m e i n f next (ask.Goes u v) p.behind q.behind (omega (arith, k)) c in
        let size : length (lines_of a) ≡ length (lines_of (drop u h ++ m)) + 1 = ap (λ (x : List ℕ). length (lines_of x)) p.joins ∙ s.2 in
        each w (omega (arith, k, size, s.1)) ∙ sym s.0 ∙ here place a b h m i n p.joins q.joins
    each {place} {a} {b} (same h m e i n f next p q c) k =
        sym (told place h m e i n f next ask.Same p.behind q.behind (omega (arith, k)) c) ∙ here place a b h m i n p.joins q.joins
    each {place} {a} {b} (apart h m e i n f next p q c) k =
        sym (told place h m e i n f next ask.Apart p.behind q.behind (omega (arith, k)) c) ∙ here place a b h m i n p.joins q.joins
