-- Every public call: its contract admits one answer, and one buffer.
use mathlib.Core.Path.{◌≡◌}
use contract.Lifetimes.{Lfts}
use denote.Triple.Clauses.{AtExit}
use borrow.Fn.Kinds.{Dens, res_t, ended_of}
use Rattle.answers.specs.Once.{Determined}
use Rattle.answers.proofs.Once.{once}
use Rattle.recording.proofs.open.Kinds as open-kinds
use Rattle.recording.proofs.open.Reads as open-reads
use Rattle.recording.proofs.header_length.Kinds as header-length-kinds
use Rattle.recording.proofs.header_length.Reads as header-length-reads
use Rattle.recording.proofs.offset_of.Kinds as offset-of-kinds
use Rattle.recording.proofs.offset_of.Reads as offset-of-reads
use Rattle.recording.proofs.bytes_of.Kinds as bytes-of-kinds
use Rattle.recording.proofs.bytes_of.Reads as bytes-of-reads
use Rattle.recording.proofs.event_at.Kinds as event-kinds
use Rattle.recording.proofs.event_at.Reads as event-reads
use Rattle.recording.proofs.admit.Kinds as admit-kinds
use Rattle.recording.proofs.admit.Reads as admit-reads
use Rattle.recording.proofs.all_used.Kinds as all-used-kinds
use Rattle.recording.proofs.all_used.Reads as all-used-reads
use Rattle.recording.proofs.samples.Kinds as samples-kinds
use Rattle.recording.proofs.samples.Reads as samples-reads
use Rattle.recording.proofs.decode.Kinds as decode-kinds
use Rattle.recording.proofs.decode.Reads as decode-reads

pub open_once : Determined 1 open-kinds.ps open-kinds.r open-reads.Post
open_once κs a v w x y p q = once p q

pub header_length_once : Determined 1 header-length-kinds.ps header-length-kinds.r header-length-reads.Post
header_length_once κs a v w x y p q = once p q

pub offset_of_once : Determined 0 offset-of-kinds.ps offset-of-kinds.r offset-of-reads.Post
offset_of_once κs a v w x y p q = once p q

pub bytes_of_once : Determined 0 bytes-of-kinds.ps bytes-of-kinds.r bytes-of-reads.Post
bytes_of_once κs a v w x y p q = once p q

pub event_at_once : Determined 1 event-kinds.ps event-kinds.r event-reads.Post
event_at_once κs a v w x y p q = once p q

pub admit_once : Determined 0 admit-kinds.ps admit-kinds.r admit-reads.Post
admit_once κs a v w x y p q = once p q

pub all_used_once : Determined 0 all-used-kinds.ps all-used-kinds.r all-used-reads.Post
all_used_once κs a v w x y p q = once p q

-- the part that is handed back holds the same samples
pub samples_once : (κs : Lfts 1) (a : Dens κs samples-kinds.ps) (v w : (res_t samples-kinds.r κs).Denot) (x y : AtExit (ended_of 1 samples-kinds.ps samples-kinds.r) κs)
    → samples-reads.Post κs a v x → samples-reads.Post κs a w y → v.now ≡ w.now
samples_once κs a v w x y p q = once p q

pub decode_once : Determined 2 decode-kinds.ps decode-kinds.r decode-reads.Post
decode_once κs a v w x y p q = once p.0 q.0

pub decode_leaves_once : (κs : Lfts 2) (a : Dens κs decode-kinds.ps) (v w : (res_t decode-kinds.r κs).Denot) (x y : AtExit (ended_of 2 decode-kinds.ps decode-kinds.r) κs)
    → decode-reads.Post κs a v x → decode-reads.Post κs a w y → x.1.1.0.now ≡ y.1.1.0.now
decode_leaves_once κs a v w x y p q = once p.1 q.1
