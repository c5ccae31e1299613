use Rattle.std.proofs.Common.{length, arith}
use Rattle.qq_wal_record.specs.declared.record.LogRecord.TheVariants.{Op}
use Rattle.qq_wal_record.specs.Encoding.{payload, inside, body}
use Rattle.qq_fields.proofs.Appends.{set_before}
use Rattle.qq_wal_record.proofs.Lengths.{body_between, payload_fits}
use Rattle.qq_wal_record.proofs.writing.put_op_body.Goals as goal

pub overflow_sub-length-2 : goal.overflow_sub-length-2
overflow_sub-length-2 c =
    let long = body_between c.args.out.now.items c.put_u32.new.out.items c.put_op_inside.new.out.items (Op c.args.op.now)
    c.in_ok-put_u32.ensures.ok c.in_ok-put_op_inside.ensures.ok in
    omega (arith, c.len.ensures, c.len-place.ensures)

pub overflow_cast-length : goal.overflow_cast-length
overflow_cast-length c =
    let long = body_between c.args.out.now.items c.put_u32.new.out.items c.put_op_inside.new.out.items (Op c.args.op.now)
    c.in_ok-put_u32.ensures.ok c.in_ok-put_op_inside.ensures.ok in
    omega (arith, c.len.ensures, c.len-place.ensures, payload_fits (Op c.args.op.now) c.requires)

pub returns-clause-ok : goal.returns-clause-ok
unfolding body
returns-clause-ok c =
    let long = body_between c.args.out.now.items c.put_u32.new.out.items c.put_op_inside.new.out.items (Op c.args.op.now)
    c.in_ok-put_u32.ensures.ok c.in_ok-put_op_inside.ensures.ok in
    set_before c.args.out.now.items (inside (Op c.args.op.now)) c.put_u32.new.out.items c.put_op_inside.new.out.items
    c.set_length.new.out.items c.len-place.result _ (length (payload (Op c.args.op.now)))
    c.in_ok-put_u32.ensures.ok c.in_ok-put_op_inside.ensures.ok (omega (arith, c.len-place.ensures))
    (omega (arith, c.len.ensures, c.len-place.ensures)) c.set_length.ensures
