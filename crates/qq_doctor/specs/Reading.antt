-- What is read of the nodes' disks.
use Rattle.std.specs.Prelude.{◌≡◌, ◌⊎◌, ◌<◌, ◌+◌, ◌++◌, ℕ, Bool, true, List, [], ◌∷◌, map, filter, nat_eq, IsTrue, Ok}
use Rattle.std.specs.List.{list_any, range_with_len}
use Rattle.qq_base.specs.Causes.{Rose}
use Rattle.qq_base.specs.declared.ids.NodeId.{NodeId}
use Rattle.qq_base.specs.declared.ids.QueueId.{QueueId}
use Rattle.qq_base.specs.declared.memory.Memory.{Memory}
use Rattle.qq_base.specs.declared.memory.Memory.TheVariants.{Want, Spent}
use Rattle.qq_disk.specs.Disk.{now}
use Rattle.qq_disk.specs.Facts.{DiskFacts}
use Rattle.qq_log.specs.declared.lane.Lane.{Lane}
use Rattle.qq_ports.specs.Yard.{IsOpened}
use Rattle.qq_ports.specs.declared.yard_fault.YardFault.{YardFault}
use Rattle.qq_ports.specs.declared.yard_fault.YardFault.TheVariants as yard_faults
use Rattle.qq_route.specs.declared.queue_row.QueueRow.{QueueRow}
use Rattle.qq_wal_chain.specs.Lanes.{Lanes}
use Rattle.qq_recover.specs.Answer.{Fails}
use Rattle.qq_recover.specs.Lanes.{AreLanes}
use Rattle.qq_recover.specs.ReadOnly.{OnlyReads}
use Rattle.qq_recover.specs.Reading.{lanes_read, shown}
use Rattle.qq_recover.specs.Recovered.{IsRecoverCaused, IsSpentOn}
use Rattle.qq_recover.specs.declared.fault.RecoverFault.{RecoverFault}
use Rattle.qq_recover.specs.declared.fault.RecoverFault.TheVariants as faults
use Rattle.qq_cluster_run.specs.Endings.{Ending, damaged, no_memory, other_version, spent, yard_fault}
use Rattle.qq_doctor.specs.Lanes.{Found}
use Rattle.qq_doctor.specs.Sorted.{of_node}

-- ---- which queues a node has

abbrev pub is_member : (k : ℕ) → List NodeId → Bool
is_member k nodes = list_any (λ (node : NodeId). nat_eq node.0 k) nodes

abbrev pub has_member : (k : ℕ) → QueueRow → Bool
has_member k row = is_member k row.members

abbrev pub queue_of : QueueRow → QueueId
queue_of row = row.args.queue

-- those of which the node is a member
abbrev pub queues_on : List QueueRow → (k : ℕ) → List QueueId
queues_on rows k = map queue_of (filter (has_member k) rows)

-- ---- what was read of a node

-- The yard gave this disk for the node, and it was only read.
pub record IsVisited {D : Type 0} (is_given : ℕ → D → Bool) (facts : DiskFacts D) (k : ℕ) (first last : D) : Type 0 where
  pub given : is_given k first ≡ true
  pub opened : IsTrue (facts.tells first) → IsOpened (facts.past first)
  pub only : OnlyReads facts first last

-- Its log gave these lanes: where the disk shows its contents, those that recovery reads there.
pub record IsRead {D : Type 0} (is_given : ℕ → D → Bool) (facts : DiskFacts D) (rows : List QueueRow) (k : ℕ)
    (lanes : List Lane) : Type 0 where
  pub first : D
  pub last : D
  pub visited : IsVisited is_given facts k first last
  pub holds : IsTrue (facts.tells first) → (read : Lanes)
      × (lanes_read (queues_on rows k) (shown (now (facts.past first))) ≡ Ok read)
      × AreLanes (queues_on rows k) read lanes

-- nodes were read in this order, and these are all the lanes that they gave
abbrev pub AreRead : {D : Type 0} → (ℕ → D → Bool) → DiskFacts D → List QueueRow → (nodes : List ℕ) → List Found
    → Type 0
AreRead is_given facts rows [] found = found ≡ []
AreRead is_given facts rows (k ∷ nodes) found =
    (lanes : List Lane) × ((rest : List Found) × (found ≡ map (of_node k) lanes ++ rest)
    × IsRead is_given facts rows k lanes × AreRead is_given facts rows nodes rest)

-- ---- why a node isn't read

abbrev pub memory_ending : Memory → Ending
memory_ending Want = no_memory
memory_ending (Spent number) = spent number

abbrev pub yard_ending : YardFault → Ending
yard_ending yard_faults.Failed = yard_fault
yard_ending (yard_faults.Memory memory) = no_memory

abbrev pub refusal_of : (k : ℕ) → RecoverFault → Ending
refusal_of k faults.Disk = yard_fault
refusal_of k (faults.Damaged file place) = damaged k file.number place
refusal_of k (faults.Version file byte) = other_version k file.number byte
refusal_of k (faults.Memory memory) = memory_ending memory

-- Its log was refused: where the disk shows its contents, as recovery would.
pub record IsRefused {D : Type 0} (is_given : ℕ → D → Bool) (facts : DiskFacts D) (rows : List QueueRow) (k : ℕ)
    (ending : Ending) : Type 0 where
  pub first : D
  pub last : D
  pub visited : IsVisited is_given facts k first last
  pub fault : RecoverFault
  pub is : ending ≡ refusal_of k fault
  pub cause : IsRecoverCaused (facts.faults first) (facts.faults last) fault
  pub fails : IsTrue (facts.tells first)
      → Fails fault (lanes_read (queues_on rows k) (shown (now (facts.past first))))
  pub spent : IsTrue (facts.tells first) → IsSpentOn (now (facts.past first)) fault

-- there was no memory, or the yard has failed, or the node's log was refused
abbrev pub MayNotRead : {D : Type 0} → (ℕ → D → Bool) → DiskFacts D → List QueueRow → (k : ℕ) → (yard yard' : ℕ)
    → Ending → Type 0
MayNotRead is_given facts rows k yard yard' ending =
    (ending ≡ no_memory) ⊎ ((Rose yard yard' × (ending ≡ yard_fault)) ⊎ IsRefused is_given facts rows k ending)

-- The nodes before the first that wasn't read were.
pub record StopsAtFirst {D : Type 0} (is_given : ℕ → D → Bool) (facts : DiskFacts D) (rows : List QueueRow)
    (nodes : ℕ) (yard yard' : ℕ) (ending : Ending) : Type 0 where
  pub before : ℕ
  pub within : before < nodes
  pub found : List Found
  pub read : AreRead is_given facts rows (range_with_len 1 before) found
  pub why : MayNotRead is_given facts rows (before + 1) yard yard' ending
