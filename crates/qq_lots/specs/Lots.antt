-- What a node's log knows of its queues. A log has the queues of which its node is a member; other nodes' logs have
-- others.
use Rattle.std.specs.Prelude.{ℕ, List, [], ◌++◌, map, length, take}
use Rattle.qq_base.specs.declared.ids.QueueId.{QueueId}
use Rattle.qq_log.specs.declared.op.Op.{Op}
use Rattle.qq_wal_chain.specs.Lanes.{of_queue}

-- of one queue
pub record Part : Type 0 where
  pub ops : List Op  -- those that were given to an append of the log, the first of them first
  pub synced : ℕ  -- how many of them a sync has kept

-- the places of a log's queues among all queues, and the id of the queue at a place
pub record Lot : Type 0 where
  pub places : List ℕ
  pub id : ℕ → QueueId

-- of each queue, by its place
abbrev pub Parts : Type 0
Parts = ℕ → Part

abbrev pub ids_of : Lot → List QueueId
ids_of lot = map lot.id lot.places

-- those of a list of ops that are of the queue at a place
abbrev pub ops_at : Lot → ℕ → List Op → List Op
ops_at lot place ops = of_queue (lot.id place).0 ops

-- ---- what calls of the log make of a part

-- before anything was appended
abbrev pub new_part : Part
new_part = record { ops = []; synced = 0 }

-- a batch is given to an append: from then on it may be on the disk, whatever the answer is
abbrev pub give : List Op → Part → Part
give own p = record p { ops = p.ops ++ own }

abbrev pub give_batch : Lot → List Op → Parts → Parts
give_batch lot batch parts = λ place. give (ops_at lot place batch) (parts place)

-- a sync has kept all of them
abbrev pub keep : Part → Part
keep p = record p { synced = length p.ops }

abbrev pub keep_all : Parts → Parts
keep_all parts = λ place. keep (parts place)

-- recovery has found so many of them, and these are kept
abbrev pub find : ℕ → Part → Part
find op p = record { ops = take op p.ops; synced = op }

abbrev pub find_each : (ℕ → ℕ) → Parts → Parts
find_each found parts = λ place. find (found place) (parts place)
