use Rattle.std.proofs.Common.{◌≡◌, ◌≤◌, List, drop, IsTrue}
use Rattle.qq_base.specs.declared.ids.QueueId.{QueueId}
use Rattle.qq_disk.specs.Disk.{now}
use Rattle.qq_wal_chain.specs.Promise.{sync_all}
use Rattle.qq_wal.specs.Running.{Stays, StillMayRecover}
use Rattle.qq_recover.specs.Recovery.{StaysSyncing}
use Rattle.qq_recover.proofs.settle.settle_all.Given as goal

abbrev pub invariant-loop-name : goal.invariant-loop-name
invariant-loop-name g l =
    let past = g.D.NodeDisk.facts.past in
    record {
      rest :
          IsTrue (g.D.NodeDisk.facts.tells l.fn.disk)
          → sync_all (now (past l.disk)) (drop l.name-index l.names) ≡ sync_all (now (past l.fn.disk)) l.names;
      stays :
          IsTrue (g.D.NodeDisk.facts.tells l.fn.disk) → (queues : List QueueId)
          → Stays queues (past l.fn.disk) (past l.disk);
      only : IsTrue (g.D.NodeDisk.facts.tells l.fn.disk) → StaysSyncing (past l.fn.disk) (past l.disk);
      may :
          IsTrue (g.D.NodeDisk.facts.tells l.fn.disk) → (queues : List QueueId)
          → StillMayRecover queues (past l.fn.disk) (past l.disk);
      told : g.D.NodeDisk.facts.tells l.disk ≡ g.D.NodeDisk.facts.tells l.fn.disk;
      later : g.D.NodeDisk.facts.faults l.fn.disk ≤ g.D.NodeDisk.facts.faults l.disk;
    }
