-- Every public call: its contract admits one answer.
use Rattle.answers.specs.Once.{Determined}
use Rattle.answers.proofs.Once.{once}
use Rattle.recording_make.proofs.plan_from.Kinds as plan-kinds
use Rattle.recording_make.proofs.plan_from.Reads as plan-reads
use Rattle.recording_make.proofs.next_event.Kinds as next-kinds
use Rattle.recording_make.proofs.next_event.Reads as next-reads
use Rattle.recording_make.proofs.event_bytes.Kinds as event-kinds
use Rattle.recording_make.proofs.event_bytes.Reads as event-reads
use Rattle.recording_make.proofs.header_bytes.Kinds as header-kinds
use Rattle.recording_make.proofs.header_bytes.Reads as header-reads

pub plan_from_once : Determined 0 plan-kinds.ps plan-kinds.r plan-reads.Post
plan_from_once κs a v w x y p q = once p q

pub next_event_once : Determined 0 next-kinds.ps next-kinds.r next-reads.Post
next_event_once κs a v w x y p q = once p q

pub event_bytes_once : Determined 0 event-kinds.ps event-kinds.r event-reads.Post
event_bytes_once κs a v w x y p q = once p q

pub header_bytes_once : Determined 0 header-kinds.ps header-kinds.r header-reads.Post
header_bytes_once κs a v w x y p q = once p q
