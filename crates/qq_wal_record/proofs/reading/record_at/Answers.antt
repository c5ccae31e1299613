use Rattle.qq_wal_record.proofs.Places.{known_mark}
use Rattle.qq_wal_record.proofs.reading.record_at.Goals as goal

pub marked_at-requires-clause-known : goal.marked_at-requires-clause-known
marked_at-requires-clause-known c =
    known_mark c.args.file c.args.bytes.now c.args.known (c.in_ok-len.len, c.in_ok-len.rest.now) c.in_ok-len.ensures
    c.requires
