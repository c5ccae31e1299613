-- What stands outside of a run at a moment: what its source has left, what its sink was given and what is on its shelf,
-- where they tell it, and how often each has failed.
use Rattle.std.specs.Prelude.{◌≤◌, ℕ, List, Option}
use Rattle.std.specs.Io.KnownBytes.{Appends, Keeps}
use Rattle.qq_base.specs.Causes.{Rose}
use Rattle.qq_ports.specs.Faults.{AppendsPrefix}

pub record SourceState : Type 0 where
  pub left : Option (List ℕ)
  pub faults : ℕ

pub record SinkState : Type 0 where
  pub written : Option (List ℕ)
  pub faults : ℕ

pub record ShelfState : Type 0 where
  pub files : Option (List ℕ → Option (List ℕ))
  pub faults : ℕ

-- a source and a sink
pub record Streams : Type 0 where
  pub source : SourceState
  pub sink : SinkState

-- ---- those of values, by what their types show of them

abbrev pub source_state : {I : Type 0} → (I → Option (List ℕ)) → (I → ℕ) → I → SourceState
source_state left faults input = record { left = left input; faults = faults input }

abbrev pub sink_state : {O : Type 0} → (O → Option (List ℕ)) → (O → ℕ) → O → SinkState
sink_state written faults output = record { written = written output; faults = faults output }

abbrev pub shelf_state :
    {S : Type 0} → (S → Option (List ℕ → Option (List ℕ))) → (S → ℕ) → S → ShelfState
shelf_state files faults shelf = record { files = files shelf; faults = faults shelf }

abbrev pub streams : {I O : Type 0} → (I → Option (List ℕ)) → (I → ℕ) → (O → Option (List ℕ)) → (O → ℕ) → I → O
    → Streams
streams left source_faults written sink_faults input output =
    record { source = source_state left source_faults input; sink = sink_state written sink_faults output }

-- a sink beside a source that nothing is read of
abbrev pub beside : {O : Type 0} → SourceState → (O → Option (List ℕ)) → (O → ℕ) → O → Streams
beside source written faults output = record { source = source; sink = sink_state written faults output }

-- the sink was given this by then
abbrev pub with_written : (written : Option (List ℕ)) → Streams → Streams
with_written written s = record s { sink = record s.sink { written = written } }

-- ---- from one moment to a later one

-- a text was written
abbrev pub Writes : (before later : SinkState) → List ℕ → Type 0
Writes before later text = Appends before.written later.written text

-- a first part of it was
abbrev pub WritesPart : (before later : SinkState) → List ℕ → Type 0
WritesPart before later text = AppendsPrefix before.written later.written text

-- nothing was read
abbrev pub IsUnread : (before later : Streams) → Type 0
IsUnread before later = Keeps before.source.left later.source.left

-- one of them has failed
abbrev pub SourceFails : (before later : SourceState) → Type 0
SourceFails before later = Rose before.faults later.faults

abbrev pub SinkFails : (before later : SinkState) → Type 0
SinkFails before later = Rose before.faults later.faults

abbrev pub ShelfFails : (before later : ShelfState) → Type 0
ShelfFails before later = Rose before.faults later.faults

-- the counts don't fall
abbrev pub AreLater : (before later : Streams) → Type 0
AreLater before later =
    (before.source.faults ≤ later.source.faults) × (before.sink.faults ≤ later.sink.faults)
