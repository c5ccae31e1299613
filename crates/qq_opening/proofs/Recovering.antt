-- A node's log is recovered.
use Rattle.std.proofs.Common.{◌≡◌, ◌≤◌, ℕ, List, Some, refl, sym, ap, subst, ◌∙◌, arith}
use Rattle.std.specs.Prelude.{IsTrue, slice_get}
use Rattle.qq_base.specs.declared.ids.QueueId.{QueueId}
use Rattle.qq_base.specs.declared.memory.Memory.TheVariants.{Spent}
use Rattle.qq_base.specs.declared.memory.TheConstants.{NUMBER_END}
use Rattle.qq_disk.specs.Disk.{Disk, now}
use Rattle.qq_disk.specs.Facts.{DiskFacts}
use Rattle.qq_node_log.specs.Found.{FailsKeeping, HasFound}
use Rattle.qq_node_log.specs.Log.{IsWhole, disk_in}
use Rattle.qq_node_log.specs.Steps.{SameDisk}
use Rattle.qq_node_log.specs.Syncing.{HasLastLog}
use Rattle.qq_node_log.specs.declared.node_log.NodeLog.{NodeLog}
use Rattle.qq_node_log.specs.declared.node_log.NodeLog.TheVariants.{Open, Closed}
use Rattle.qq_node_log.specs.declared.recovering.Found.{Found}
use Rattle.qq_recover.specs.Answer.{Fails}
use Rattle.qq_recover.specs.Reading.{lanes_read, shown}
use Rattle.qq_recover.specs.Recovered.{IsGreatest, IsRecoverCaused, IsSpentOn}
use Rattle.qq_recover.specs.declared.fault.RecoverFault.{RecoverFault}
use Rattle.qq_recover.specs.declared.fault.RecoverFault.TheVariants.{Memory as OfMemory}
use Rattle.qq_recover.proofs.Causes.{greatest-listed}
use Rattle.qq_wal.proofs.OnDisk.{above-listed}
use Rattle.qq_opening.specs.Taking.{FailsToRecover, MayRecover, Recovers}
use Rattle.qq_cluster.specs.Nodes.{InNumbers, NumberAt}
use Rattle.qq_cluster.specs.declared.node.Node.{Node}
use Rattle.qq_cluster.specs.declared.nodes.Nodes.{Nodes as Held}

-- a log that may be recovered is the node's
pub may-read : {D : Type 0} (facts : DiskFacts D) (node : Node D) (log : NodeLog D) (queues : List QueueId) (disk : D)
    → MayRecover facts node → node.log ≡ Some log → disk ≡ disk_in log
    → queues ≡ node.queues.items → IsWhole facts queues disk
may-read {D = D} facts node log queues disk may is own same =
    let there : may.0 ≡ log = (let e : Some may.0 ≡ Some log = sym may.1 ∙ is in cc) in
    subst (λ (ids : List QueueId). IsWhole facts ids disk) (sym same)
    (subst (λ (d : D). IsWhole facts node.queues.items d) (ap disk_in there ∙ sym own) may.2)

module _ {D : Type 0} {facts : DiskFacts D} (old new : Node D) (own : NodeLog D) (was : old.log ≡ Some own) where
  pub recovered : (log_bytes : ℕ) (found : Found D) (queues : List QueueId) (disk : D) → disk ≡ disk_in own
      → queues ≡ old.queues.items → HasFound facts queues log_bytes disk found
      → SameDisk facts queues disk found.wal.disk → new ≡ record old { log = Some (Open found.wal) }
      → Recovers facts log_bytes old new found.lanes.items
  recovered log_bytes found queues disk is same has kept next = record {
    own = own;
    was = was;
    found = found;
    lanes_are = refl;
    has = subst (λ (l : List QueueId). HasFound facts l log_bytes (disk_in own) found) same
        (subst (λ (d : D). HasFound facts queues log_bytes d found) is has);
    disk = subst (λ (l : List QueueId). SameDisk facts l (disk_in own) found.wal.disk) same
        (subst (λ (d : D). SameDisk facts queues d found.wal.disk) is kept);
    is = next;
  }

  pub refused : (fault : RecoverFault) (left : D) (queues : List QueueId) (disk : D) → disk ≡ disk_in own
      → queues ≡ old.queues.items → SameDisk facts queues disk left
      → (IsTrue (facts.tells disk) → FailsKeeping queues (facts.past disk) (facts.past left) fault)
      → (IsTrue (facts.tells disk) → Fails fault (lanes_read queues (shown (now (facts.past disk)))))
      → (IsTrue (facts.tells disk) → IsSpentOn (now (facts.past disk)) fault)
      → IsRecoverCaused (facts.faults disk) (facts.faults left) fault → new ≡ record old { log = Some (Closed left) }
      → FailsToRecover facts old new fault
  refused fault left queues disk is same kept keeps' fails spent cause next = record {
    own = own;
    was = was;
    left = left;
    disk = subst (λ (l : List QueueId). SameDisk facts l (disk_in own) left) same
        (subst (λ (d : D). SameDisk facts queues d left) is kept);
    is = next;
    keeps = subst (λ (l : List QueueId). IsTrue (facts.tells (disk_in own))
        → FailsKeeping l (facts.past (disk_in own)) (facts.past left) fault) same
        (subst (λ (d : D). IsTrue (facts.tells d) → FailsKeeping queues (facts.past d) (facts.past left)
        fault) is keeps');
    refused = subst (λ (l : List QueueId). IsTrue (facts.tells (disk_in own))
        → Fails fault (lanes_read l (shown (now (facts.past (disk_in own)))))) same
        (subst (λ (d : D). IsTrue (facts.tells d) → Fails fault (lanes_read queues (shown (now (facts.past d))))) is
        fails);
    spent = subst (λ (d : D). IsTrue (facts.tells d) → IsSpentOn (now (facts.past d)) fault) is spent;
    cause = subst (λ (d : D). IsRecoverCaused (facts.faults d) (facts.faults left) fault) is cause;
  }

-- ---- a number of the files is at its end

-- the greatest number of a log file is the last one that there may be
last-log : (d : Disk) (number : ℕ) → NUMBER_END ≤ number → IsGreatest d number → HasLastLog number d
last-log d number end most = record {
  there = (greatest-listed d number end most).1;
  greatest = λ n above.
      above-listed d most.names most.listing n (let is = most.is in omega (arith, is, above));
  end = end;
}

module _ {D : Type 0} (facts : DiskFacts D) (at : ℕ) (held : Held D) (old new : Node D)
    (here : slice_get held.nodes.items at ≡ Some old) (fault : RecoverFault)
    (fails : FailsToRecover facts old new fault) (number : ℕ) (is : fault ≡ OfMemory (Spent number)) where
  pub spent-end : NUMBER_END ≤ number
  spent-end = subst (IsRecoverCaused (facts.faults (disk_in fails.own)) (facts.faults fails.left)) is fails.cause

  pub spent-log : NumberAt facts held number
  spent-log =
      InNumbers at fails.own (record { node = old; here = here; is = fails.was })
      (λ tell. last-log (now (facts.past (disk_in fails.own))) number spent-end
      (subst (IsSpentOn (now (facts.past (disk_in fails.own)))) is (fails.spent tell)))
