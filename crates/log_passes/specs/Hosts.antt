-- Request b: what a host comes to that hands these calls the bytes of two logs. At each step it holds some bytes from where it stands in a log, and says whether none come
-- behind them. Where more are wanted it holds more and asks again, and nothing has changed; so only the other answers are told here.
use Rattle.std.specs.Prelude.{ℕ, ◌≡◌, Bool, List, ◌++◌, take, drop}
use Rattle.log_text.specs.Apart as places
use Rattle.log_text.specs.Cut.{Behind}
use Rattle.log_parts.specs.Named.{Named, Lines, NotALog}
use Rattle.log_parts.specs.Parts.{Parted, NotALogLine, Same, Parts}
use Rattle.log_parts.specs.declared.Sort.{Sort}
use Rattle.log_parts.specs.declared.Sort.TheVariants.{Headers, Frames, Cycles, Refusals, Closings}
use Rattle.log_parts.specs.declared.Tally.{Tally}
use Rattle.log_passes.specs.Taking.{taken_in}
use Rattle.log_passes.specs.Judging.{unread, judged_in}
use Rattle.log_passes.specs.Beside.{beside_in}
use Rattle.log_passes.specs.Passing.{step_of, stepped, unbegun}
use Rattle.log_passes.specs.declared.judging.Judging.{Judging}
use Rattle.log_passes.specs.declared.judging.Look.TheVariants as look
use Rattle.log_passes.specs.declared.beside.Ask.TheVariants as ask
use Rattle.log_passes.specs.declared.passing.Pass.{Pass}
use Rattle.log_passes.specs.declared.passing.Need.TheVariants as need

-- the bytes at hand of a text, and those that are still to come
pub record Holds (text hand more : List ℕ) (ended : Bool) : Type 0 where
  pub joins : text ≡ hand ++ more
  pub behind : Behind ended more

-- ---- one log is judged

-- it is a log; or it stops being one at that line, which begins so
pub data Heard : Type 0 where
  Fine : Heard
  Stops : ℕ → List ℕ → Heard

-- of a line that is none no more than 76 bytes are told: no line of a log has so many
abbrev pub heard : Named → Heard
heard (Lines ls) = Fine
heard (NotALog k t) = Stops k (take 76 t)

pub data Judges : Judging → List ℕ → Heard → Type 0 where
  goes : {j : Judging} {text : List ℕ} {h : Heard} (hand more : List ℕ) (ended : Bool) (k : Judging) (used : ℕ) → Holds text hand more ended
      → judged_in j hand (taken_in hand ended) ≡ record { judging = k; look = look.Goes used } → Judges k (drop used hand ++ more) h → Judges j text h
  over : {j : Judging} {text : List ℕ} (hand more : List ℕ) (ended : Bool) (k : Judging) → Holds text hand more ended
      → judged_in j hand (taken_in hand ended) ≡ record { judging = k; look = look.Over } → Judges j text Fine
  strange : {j : Judging} {text : List ℕ} (hand more : List ℕ) (ended : Bool) (k : Judging) (n : ℕ) → Holds text hand more ended
      → judged_in j hand (taken_in hand ended) ≡ record { judging = k; look = look.Strange n } → Judges j text (Stops j.place (take n hand))

-- ---- both in their order

-- they are the same; or they part at that line
pub data Ordered : Type 0 where
  Equal : Ordered
  From : ℕ → Ordered

abbrev pub ordered : places.Apart → Ordered
ordered places.Same = Equal
ordered (places.At k x y) = From k

pub data Orders : ℕ → List ℕ → List ℕ → Ordered → Type 0 where
  goes : {place : ℕ} {a b : List ℕ} {r : Ordered} (h m : List ℕ) (e : Bool) (i n : List ℕ) (f : Bool) (next u v : ℕ) → Holds a h m e → Holds b i n f
      → beside_in place h e i f ≡ record { place = next; ask = ask.Goes u v } → Orders next (drop u h ++ m) (drop v i ++ n) r → Orders place a b r
  same : {place : ℕ} {a b : List ℕ} (h m : List ℕ) (e : Bool) (i n : List ℕ) (f : Bool) (next : ℕ) → Holds a h m e → Holds b i n f
      → beside_in place h e i f ≡ record { place = next; ask = ask.Same } → Orders place a b Equal
  apart : {place : ℕ} {a b : List ℕ} (h m : List ℕ) (e : Bool) (i n : List ℕ) (f : Bool) (next : ℕ) → Holds a h m e → Holds b i n f
      → beside_in place h e i f ≡ record { place = next; ask = ask.Apart } → Orders place a b (From place)

-- ---- both by one sort

pub data Passes (s : Sort) : Pass → List ℕ → List ℕ → Tally → Type 0 where
  goes : {p : Pass} {a b : List ℕ} {t : Tally} (h m : List ℕ) (e : Bool) (i n : List ℕ) (f : Bool) (q : Pass) (u v : ℕ) → Holds a h m e → Holds b i n f
      → stepped s p h e i f ≡ step_of q u v need.Goes → Passes s q (drop u h ++ m) (drop v i ++ n) t → Passes s p a b t
  over : {p : Pass} {a b : List ℕ} (h m : List ℕ) (e : Bool) (i n : List ℕ) (f : Bool) (q : Pass) (u v : ℕ) → Holds a h m e → Holds b i n f
      → stepped s p h e i f ≡ step_of q u v need.Over → Passes s p a b q.tally

-- ---- the whole

-- the first log is judged to its end, then the second; then both go in their order, and where they part, by each sort
pub data Hosted (a b : List ℕ) : Parted → Type 0 where
  first_strange : (k : ℕ) (t : List ℕ) → Judges unread a (Stops k t) → Hosted a b (NotALogLine 1 k t)
  second_strange : (k : ℕ) (t : List ℕ) → Judges unread a Fine → Judges unread b (Stops k t) → Hosted a b (NotALogLine 2 k t)
  same : Judges unread a Fine → Judges unread b Fine → Orders 1 a b Equal → Hosted a b Same
  parts : (k : ℕ) (h f c r l : Tally) → Judges unread a Fine → Judges unread b Fine → Orders 1 a b (From k) → Passes Headers unbegun a b h → Passes Frames unbegun a b f
      → Passes Cycles unbegun a b c → Passes Refusals unbegun a b r → Passes Closings unbegun a b l
      → Hosted a b (Parts (record {
        headers = h.first;
        frames = f.first;
        cycles = c.first;
        refusals = r.first;
        closings = l.first;
        differing_frames = f.count;
        differing_cycles = c.count;
        place = k;
      }))

-- what two logs come to, and of a line that is none no more than 76 bytes
abbrev pub shortened : Parted → Parted
shortened (NotALogLine log k t) = NotALogLine log k (take 76 t)
shortened Same = Same
shortened (Parts r) = Parts r
