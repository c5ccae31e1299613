use Rattle.std.proofs.Common.{◌≡◌, ◌++◌, ℕ, ap, ◌∙◌}
use Rattle.qq_base.specs.declared.ids.QueueId.{QueueId}
use Rattle.qq_fields.specs.Writing.{u8, u32, u64}
use Rattle.qq_wal_record.specs.declared.record.LogRecord.TheVariants.{Op}
use Rattle.qq_wal_record.specs.Encoding.{payload, inside}
use Rattle.qq_wal_record.specs.Record.{kind, queue, number}
use Rattle.qq_fields.proofs.Appends.{append_twice}
use Rattle.qq_wal_record.proofs.writing.put_op_inside.Goals as goal

pub returns-clause-ok : goal.returns-clause-ok
unfolding inside
returns-clause-ok c =
    let r = Op c.args.op.now in
    let first : c.put_u8.new.out.items ≡ c.args.out.now.items ++ u8 (kind r) = c.in_ok-put_u8.ensures.ok
    ∙ ap (λ (k : ℕ). c.args.out.now.items ++ u8 k) c.op_kind.ensures in
    let second : c.put_u32.new.out.items ≡ c.put_u8.new.out.items ++ u32 (queue r).0 = c.in_ok-put_u32.ensures.ok
    ∙ ap (λ (q : QueueId). c.put_u8.new.out.items ++ u32 q.0) c.queue.ensures in
    let third : c.put_u64.new.out.items ≡ c.put_u32.new.out.items ++ u64 (number r) = c.in_ok-put_u64.ensures.ok
    ∙ ap (λ (n : ℕ). c.put_u32.new.out.items ++ u64 n) c.number.ensures in
    append_twice c.args.out.now.items ((u8 (kind r) ++ u32 (queue r).0) ++ u64 (number r)) (payload r)
    c.put_u64.new.out.items c.put_op.new.out.items
    (append_twice c.args.out.now.items (u8 (kind r) ++ u32 (queue r).0) (u64 (number r)) c.put_u32.new.out.items
    c.put_u64.new.out.items
    (append_twice c.args.out.now.items (u8 (kind r)) (u32 (queue r).0) c.put_u8.new.out.items
    c.put_u32.new.out.items first second) third) c.in_ok-put_op.ensures.ok
