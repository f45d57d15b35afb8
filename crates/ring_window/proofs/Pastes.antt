-- Four pastes, one behind the other, make a whole window.
use Prim.Native.Nat.{ℕ, zero, suc, ◌+◌, ◌≤◌}
use mathlib.Core.Path.{◌≡◌, refl, sym, ap, ◌∙◌}
use mathlib.Core.List.{List, [], ◌∷◌, ◌++◌, map, map-append}
use native.Mathlib.Nat.{zero-add}
use native.Mathlib.Omega.{arith}
use lib.ListN.{length, take, drop, replicate, length-replicate, length-drop, length-map}
use lib.Seq.{paste, length-paste, take-paste, take_all, take-length}
use lib.Ieee.{Float, binary32, of_bits}
use Rattle.ring_window.specs.declared.Cut.{Cut}
use Rattle.ring_window.specs.Cuts.{Fitting, pieces}

module _ {A : Type 0} (w a b c d : List A) (h r k t : ℕ)
    (whole : h + (r + k) + t ≡ length w) (ha : h ≤ length a) (hb : r ≤ length b) (hc : k ≤ length c) (hd : t ≤ length d) where
  abbrev w1 : List A
  w1 = paste w 0 a h

  abbrev w2 : List A
  w2 = paste w1 h b r

  abbrev w3 : List A
  w3 = paste w2 (h + r) c k

  abbrev w4 : List A
  w4 = paste w3 (h + r + k) d t

  pub long1 : length w1 ≡ length w
  long1 = length-paste w 0 a h (omega (arith, whole)) ha

  pub long2 : length w2 ≡ length w
  long2 = length-paste w1 h b r (omega (arith, whole, long1)) hb ∙ long1

  pub long3 : length w3 ≡ length w
  long3 = length-paste w2 (h + r) c k (omega (arith, whole, long2)) hc ∙ long2

  pub long4 : length w4 ≡ length w
  long4 = length-paste w3 (h + r + k) d t (omega (arith, whole, long3)) hd ∙ long3

  front1 : take h w1 ≡ take h a
  front1 = ap (λ (n : ℕ). take n w1) (sym (zero-add h)) ∙ take-paste w 0 a h (omega arith) ha

  front2 : take (h + r) w2 ≡ take h a ++ take r b
  front2 = take-paste w1 h b r (omega (arith, whole, long1)) hb ∙ ap (λ (l : List A). l ++ take r b) front1

  front3 : take (h + r + k) w3 ≡ take h a ++ take r b ++ take k c
  front3 = take-paste w2 (h + r) c k (omega (arith, whole, long2)) hc ∙ ap (λ (l : List A). l ++ take k c) front2

  pub four : w4 ≡ take h a ++ take r b ++ take k c ++ take t d
  four =
      let e : h + r + k + t ≡ length w4 = omega (arith, whole, long4) in
      sym (take-length w4)
      ∙ ap (λ (n : ℕ). take n w4) (sym e)
      ∙ take-paste w3 (h + r + k) d t (omega (arith, whole, long3)) hd
      ∙ ap (λ (l : List A). l ++ take t d) front3

-- ---- a whole list of one value, and lists through a function

pub replicate_whole : {A : Type 0} (n : ℕ) (x : A) → take n (replicate n x) ≡ replicate n x
replicate_whole n x = take_all n (replicate n x) (omega (arith, length-replicate n x))

module _ {A B : Type 0} (f : A → B) where
  pub map_take : (n : ℕ) (l : List A) → take n (map f l) ≡ map f (take n l)
  map_take zero l = refl
  map_take (suc n) [] = refl
  map_take (suc n) (x ∷ xs) = ap (λ (r : List B). f x ∷ r) (map_take n xs)

  pub map_replicate : (n : ℕ) (x : A) → map f (replicate n x) ≡ replicate n (f x)
  map_replicate zero x = refl
  map_replicate (suc n) x = ap (λ (r : List B). f x ∷ r) (map_replicate n x)

  pub map_four : (a b c d : List A) → map f (a ++ b ++ c ++ d) ≡ map f a ++ map f b ++ map f c ++ map f d
  map_four a b c d =
      map-append f (a ++ b ++ c) d
      ∙ ap (λ (l : List B). l ++ map f d) (map-append f (a ++ b) c ∙ ap (λ (l : List B). l ++ map f c) (map-append f a b))

-- ---- what is left by four steps, each of which pastes behind the one before

after_four : {A : Type 0} (w v1 v2 v3 v4 a b c d : List A) (h r k t : ℕ) → h + (r + k) + t ≡ length w → h ≤ length a → r ≤ length b → k ≤ length c → t ≤ length d
    → v1 ≡ paste w 0 a h → v2 ≡ paste v1 h b r → v3 ≡ paste v2 (h + r) c k → v4 ≡ paste v3 (h + r + k) d t → v4 ≡ take h a ++ take r b ++ take k c ++ take t d
after_four {A} w v1 v2 v3 v4 a b c d h r k t whole ha hb hc hd e1 e2 e3 e4 =
    e4
    ∙ ap (λ (x : List A). paste x (h + r + k) d t) (e3 ∙ ap (λ (x : List A). paste x (h + r) c k) (e2 ∙ ap (λ (x : List A). paste x h b r) e1))
    ∙ four w a b c d h r k t whole ha hb hc hd

as_many : {A : Type 0} (n : ℕ) (x : A) → n ≤ length (replicate n x)
as_many n x = let e = length-replicate n x in omega (arith, e)

run_long : (slot run : ℕ) (buf : List ℕ) → slot + run ≤ length buf → run ≤ length (drop slot buf)
run_long slot run buf h = let e = length-drop slot buf in omega (arith, e, h)

as_long : {A : Type 0} (f : ℕ → A) (n : ℕ) (xs : List ℕ) → n ≤ length xs → n ≤ length (map f xs)
as_long f n xs h = let e = length-map xs f in omega (arith, e, h)

pub pattern_pieces : (c : Cut) (buf w v1 v2 v3 v4 : List ℕ) → Fitting (length buf) (length w) c
    → v1 ≡ paste w 0 (replicate c.head 0) c.head → v2 ≡ paste v1 c.head (drop c.slot buf) c.run
    → v3 ≡ paste v2 (c.head + c.run) buf c.wrapped → v4 ≡ paste v3 (c.head + c.run + c.wrapped) (replicate c.tail 0) c.tail
    → v4 ≡ pieces c buf
pattern_pieces c buf w v1 v2 v3 v4 f e1 e2 e3 e4 =
    after_four w v1 v2 v3 v4 (replicate c.head 0) (drop c.slot buf) buf (replicate c.tail 0) c.head c.run c.wrapped c.tail f.whole
    (as_many c.head 0) (run_long c.slot c.run buf f.inside) f.around (as_many c.tail 0) e1 e2 e3 e4
    ∙ ap (λ (x : List ℕ). x ++ take c.run (drop c.slot buf) ++ take c.wrapped buf ++ take c.tail (replicate c.tail 0)) (replicate_whole c.head 0)
    ∙ ap (λ (x : List ℕ). replicate c.head 0 ++ take c.run (drop c.slot buf) ++ take c.wrapped buf ++ x) (replicate_whole c.tail 0)

abbrev float : ℕ → Float
float = of_bits binary32

pub value_pieces : (c : Cut) (buf : List ℕ) (w v1 v2 v3 v4 : List Float) → Fitting (length buf) (length w) c
    → v1 ≡ paste w 0 (replicate c.head (float 0)) c.head → v2 ≡ paste v1 c.head (map float (drop c.slot buf)) c.run
    → v3 ≡ paste v2 (c.head + c.run) (map float buf) c.wrapped → v4 ≡ paste v3 (c.head + c.run + c.wrapped) (replicate c.tail (float 0)) c.tail
    → v4 ≡ map float (pieces c buf)
value_pieces c buf w v1 v2 v3 v4 f e1 e2 e3 e4 =
    let run = drop c.slot buf in
    after_four w v1 v2 v3 v4 (replicate c.head (float 0)) (map float run) (map float buf) (replicate c.tail (float 0)) c.head c.run c.wrapped c.tail f.whole
    (as_many c.head (float 0)) (as_long float c.run run (run_long c.slot c.run buf f.inside)) (as_long float c.wrapped buf f.around) (as_many c.tail (float 0)) e1 e2 e3 e4
    ∙ ap (λ (x : List Float). x ++ take c.run (map float run) ++ take c.wrapped (map float buf) ++ take c.tail (replicate c.tail (float 0))) (replicate_whole c.head (float 0) ∙ sym (map_replicate float c.head 0))
    ∙ ap (λ (x : List Float). map float (replicate c.head 0) ++ x ++ take c.wrapped (map float buf) ++ take c.tail (replicate c.tail (float 0))) (map_take float c.run run)
    ∙ ap (λ (x : List Float). map float (replicate c.head 0) ++ map float (take c.run run) ++ x ++ take c.tail (replicate c.tail (float 0))) (map_take float c.wrapped buf)
    ∙ ap (λ (x : List Float). map float (replicate c.head 0) ++ map float (take c.run run) ++ map float (take c.wrapped buf) ++ x) (replicate_whole c.tail (float 0) ∙ sym (map_replicate float c.tail 0))
    ∙ sym (map_four float (replicate c.head 0) (take c.run run) (take c.wrapped buf) (replicate c.tail 0))
