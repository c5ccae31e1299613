use Rattle.std.proofs.Common.{◌++◌}
use Rattle.qq_fields.specs.Writing.{u8, u32, u64}
use Rattle.qq_wal_record.specs.declared.record.TheConstants.{CARRY}
use Rattle.qq_wal_record.specs.Encoding.{carry_payload, inside}
use Rattle.qq_fields.proofs.Appends.{append_twice}
use Rattle.qq_wal_record.proofs.writing.put_carry_inside.Goals as goal

pub returns-clause-ok : goal.returns-clause-ok
unfolding inside
returns-clause-ok c =
    let carry = c.args.carry.now in
    let front = u8 CARRY ++ u32 carry.queue.0 in
    append_twice c.args.out.now.items (front ++ u64 carry.op) (carry_payload carry) c.put_u64.new.out.items
    c.put_carry.new.out.items
    (append_twice c.args.out.now.items front (u64 carry.op) c.put_u32.new.out.items c.put_u64.new.out.items
    (append_twice c.args.out.now.items (u8 CARRY) (u32 carry.queue.0) c.put_u8.new.out.items
    c.put_u32.new.out.items c.in_ok-put_u8.ensures.ok c.in_ok-put_u32.ensures.ok) c.in_ok-put_u64.ensures.ok)
    c.in_ok-put_carry.ensures.ok
