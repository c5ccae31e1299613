use Rattle.std.proofs.Common.{◌≤◌, ◌+◌, length, ap, subst, arith}
use Rattle.std.specs.List.{flat_map}
use Rattle.qq_command.specs.Encoding.{encoding}
use Rattle.qq_log.specs.declared.limits.TheConstants.{PAYLOAD_LIMIT}
use Rattle.qq_log.specs.declared.op.Op.{Op}
use Rattle.qq_log.specs.Writable.{payload_length}
use Rattle.qq_wal_record.proofs.Lengths.{entries_count}
use Rattle.qq_wal_record.proofs.writing.put_op.Goals as goal

pub put_change-requires-clause-count : goal.put_change-requires-clause-count
put_change-requires-clause-count c =
    let small : 21 + length (flat_map encoding c.in-Change.entries) ≤ PAYLOAD_LIMIT = subst
    (λ (op : Op). payload_length op ≤ PAYLOAD_LIMIT) c.in-Change.is c.requires.payload in
    omega (arith, ap length c.as_slice.ensures, entries_count c.in-Change.entries)
