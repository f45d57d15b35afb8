-- A near event cut behind its first line: that line, and then the samples that are left.
use Prim.Native.Nat.{ℕ, suc, ◌+◌}
use mathlib.Core.Path.{◌≡◌, refl, sym, ap, ◌∙◌}
use mathlib.Core.Bool.{true, false, false≢true}
use mathlib.Core.List.{List, [], ◌∷◌, ◌++◌, append-nil}
use native.Mathlib.Omega.{arith}
use lib.Ieee.{Float}
use lib.ListN.{length, drop}
use lib.Seq.{drop-length}
use Rattle.answers.specs.Pick.{pick_true, pick_false, pick_case}
use Rattle.answers.specs.Numbers.{next_long_count}
use Rattle.scan.specs.State.{Buffers}
use Rattle.log_lines.specs.declared.Line.{Line}
use Rattle.replay.specs.Events.{Play, goes_on, continued_by, log_goes_on, sample_played, near_played}
use Rattle.replay.specs.declared.Session.{Session}
use Rattle.replay_stream.specs.Stream.{Cut, cut, no_lines, near_cut}
use Rattle.replay_stream.proofs.Plain.{One, sample_plain}

-- a play, with the lines before it
abbrev pub behind : List Line → Play → Play
behind ls p = record { lines = ls ++ p.lines; session = p.session; buffers = p.buffers; ends = p.ends }

pub record Cuts (e : ℕ) (s : Session) (b : Buffers) (xs : List Float) (index : ℕ) (c : Cut) : Type 0 where
  pub plays : log_goes_on (near_played e s b xs index) ≡ behind c.lines (log_goes_on (near_played e c.session c.buffers c.left c.index))
  pub one : One c.lines
  pub keeps : c.session.used ≡ s.used
  pub passed : ℕ
  pub behind_them : drop passed xs ≡ c.left
  pub count : passed + length c.left ≡ length xs
  pub stops : no_lines c.lines ≡ true → c.left ≡ []

no_lines_lem : (ls : List Line) → no_lines ls ≡ true → ls ≡ []
no_lines_lem [] e = refl
no_lines_lem (l ∷ ls) e = absurd (false≢true e)

module _ (e : ℕ) (s : Session) (b : Buffers) (x : Float) (xs : List Float) (index : ℕ) where
  abbrev p : Play
  p = sample_played e s b x index

  abbrev i : ℕ
  i = next_long_count index

  abbrev q : Play
  q = near_played e p.session p.buffers xs i

  refused : p.ends ≡ true → Cuts e s b (x ∷ xs) index (cut p.lines p.session p.buffers i [])
  unfolding near_played
  refused t = record {
    plays = ap log_goes_on (pick_true p.ends p (continued_by p q) t) ∙ ap (λ (ls : List Line). goes_on ls p.session p.buffers) (sym (append-nil p.lines));
    one = (sample_plain e s b x index).one;
    keeps = (sample_plain e s b x index).keeps;
    passed = length (x ∷ xs);
    behind_them = drop-length (x ∷ xs);
    count = omega arith;
    stops = λ z. refl;
  }

  lined : p.ends ≡ false → no_lines p.lines ≡ false → Cuts e s b (x ∷ xs) index (cut p.lines p.session p.buffers i xs)
  unfolding near_played
  lined f l = record {
    plays = ap log_goes_on (pick_false p.ends p (continued_by p q) f);
    one = (sample_plain e s b x index).one;
    keeps = (sample_plain e s b x index).keeps;
    passed = 1;
    behind_them = refl;
    count = omega arith;
    stops = λ z. absurd (false≢true (sym l ∙ z));
  }

  quiet : (c : Cut) → p.ends ≡ false → p.lines ≡ [] → Cuts e p.session p.buffers xs i c → Cuts e s b (x ∷ xs) index c
  unfolding near_played
  quiet c f z r = record {
    plays =
        ap log_goes_on (pick_false p.ends p (continued_by p q) f)
        ∙ ap (λ (ls : List Line). goes_on (ls ++ q.lines) q.session q.buffers) z
        ∙ r.plays;
    one = r.one;
    keeps = r.keeps ∙ (sample_plain e s b x index).keeps;
    passed = suc r.passed;
    behind_them = r.behind_them;
    count = omega (arith, r.count);
    stops = r.stops;
  }

pub cuts : (e : ℕ) (s : Session) (b : Buffers) (xs : List Float) (index : ℕ) → Cuts e s b xs index (near_cut e s b xs index)
unfolding near_cut
cuts e s b [] index = record { plays = refl; one = refl; keeps = refl; passed = 0; behind_them = refl; count = omega arith; stops = λ z. refl }
cuts e s b (x ∷ xs) index =
    let y = sample_played e s b x index in
    pick_case (Cuts e s b (x ∷ xs) index) y.ends _ _
    (refused e s b x xs index)
    (λ f. pick_case (Cuts e s b (x ∷ xs) index) (no_lines y.lines) _ _
    (λ z. quiet e s b x xs index _ f (no_lines_lem y.lines z) (cuts e y.session y.buffers xs (next_long_count index)))
    (lined e s b x xs index f))
