use Rattle.std.proofs.Common.{◌≡◌, ◌+◌, List, length}
use Rattle.qq_base.specs.declared.ids.QueueId.{QueueId}
use Rattle.qq_wal_record.specs.Ahead.{AreMarks}
use Rattle.qq_recover.proofs.Records.{ReadsOn}
use Rattle.qq_recover.proofs.file.records_at.Given as goal

abbrev pub invariant-records : goal.invariant-records
invariant-records l = record {
  so : (queues : List QueueId) → ReadsOn queues l.number l.start l.bytes l.found.items l.place l.rest;
  long : l.place + length l.rest ≡ l.start + length l.bytes;
  marks : AreMarks l.number l.ahead.items l.rest;
}

abbrev pub decreases-records : goal.decreases-records
decreases-records l = length l.rest
