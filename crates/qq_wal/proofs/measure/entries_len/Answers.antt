use Rattle.std.proofs.Common.{arith}
use Rattle.qq_wal.proofs.Batches.{part_len}
use Rattle.qq_wal.proofs.measure.entries_len.Goals as goal

pub returns-then-len-gt-BATCH_BYTES-clause-none : goal.returns-then-len-gt-BATCH_BYTES-clause-none
returns-then-len-gt-BATCH_BYTES-clause-none c =
    omega (
      arith,
      part_len c.loop-entry.entry-index c.args.entries.now,
      c.loop-entry.invariant,
      c.if-len-gt-BATCH_BYTES.true,
    )
