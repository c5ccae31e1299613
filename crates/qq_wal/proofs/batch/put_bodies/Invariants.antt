use Rattle.std.proofs.Common.{◌≡◌, ◌+◌, ◌*◌, ◌≤◌, ◌-◌, length, map, take}
use Rattle.std.specs.List.{flat_map}
use Rattle.qq_wal_record.specs.Encoding.{body}
use Rattle.qq_wal_record.specs.Marked.{body_length}
use Rattle.qq_wal.specs.declared.batch.TheConstants.{BATCH_OPS, BATCH_BYTES}
use Rattle.qq_wal.proofs.batch.put_bodies.Given as goal

-- the first records are added, within the limits
abbrev pub invariant-loop-count : goal.invariant-loop-count
invariant-loop-count l = record {
  within : l.count ≤ length l.waiting.items;
  ops : l.count ≤ BATCH_OPS;
  bytes : l.bytes.items ≡ flat_map body (take l.count l.waiting.items);
  lengths : l.lengths.items ≡ map body_length (take l.count l.waiting.items);
  most : length l.bytes.items + 8 * l.count ≤ BATCH_BYTES;
}

abbrev pub decreases-loop-count : goal.decreases-loop-count
decreases-loop-count l = length l.waiting.items - l.count
