use Rattle.std.proofs.Common.{◌+◌, inl, inr, arith}
use Rattle.qq_wal_record.specs.declared.record.LogRecord.TheVariants.{Op}
use Rattle.qq_wal.proofs.Bodies.{more_bodies, taken_len}
use Rattle.qq_wal.proofs.batch.put_bodies.Goals as goal

pub returns-then-len-count-gt-BATCH_BYTES-clause-batch :
    goal.returns-then-len-count-gt-BATCH_BYTES-clause-batch
returns-then-len-count-gt-BATCH_BYTES-clause-batch c = λ file.
    let ws = c.args.waiting.now.items in
    let count = c.loop-count.count in
    let bytes = c.loop-count.bytes.items in
    let next = c.put_op_body.new.out.items in
    let i = c.loop-count.invariant in
    let all = more_bodies ws count (Op c.op_at.result.now) bytes next (omega arith) c.op_at.ensures.lookup i.bytes
    c.in_ok-put_op_body.ensures.ok in
    record {
      within = i.within;
      ops = i.ops;
      bytes = omega (arith, taken_len file count ws bytes i.within i.bytes);
      most = inr (inr (omega (arith, taken_len file (count + 1) ws next (omega arith) all)));
    }

pub returns-else-count-lt-BATCH_OPS-clause-batch :
    goal.returns-else-count-lt-BATCH_OPS-clause-batch
returns-else-count-lt-BATCH_OPS-clause-batch c = λ file.
    let i = c.loop-count.invariant in
    record {
      within = i.within;
      ops = i.ops;
      bytes = omega (arith, taken_len file c.loop-count.count c.args.waiting.now.items c.loop-count.bytes.items i.within i.bytes);
      most = inr (inl (omega arith));
    }

pub returns-after-loop-count-clause-batch : goal.returns-after-loop-count-clause-batch
returns-after-loop-count-clause-batch c = λ file.
    let i = c.loop-count.invariant in
    record {
      within = i.within;
      ops = i.ops;
      bytes = omega (arith, taken_len file c.loop-count.count c.args.waiting.now.items c.loop-count.bytes.items i.within i.bytes);
      most = inl (omega arith);
    }
