use Rattle.std.proofs.Common.{◌≡◌, ◌-◌, ◌<◌, ◌^◌, length, arith}
use Rattle.qq_fields.proofs.Appends.{length_between}
use Rattle.qq_amqp_wire.specs.Writing.{payload_of}
use Rattle.qq_amqp_wire.proofs.SpellingLaws.{payload_short}
use Rattle.qq_amqp_wire.proofs.writing.put_sized.Goals as goal

pub overflow_cast-length : goal.overflow_cast-length
overflow_cast-length c =
    let small : length (payload_of c.args.frame.now) < 2 ^ 32 = payload_short c.args.frame.now c.requires in
    let between : length c.put_payload.new.out.items - length c.put_u32.new.out.items ≡ length
    (payload_of c.args.frame.now) = length_between c.put_u32.new.out.items (payload_of c.args.frame.now)
    c.put_payload.new.out.items c.in_ok-put_payload.ensures.ok in
    omega (arith, c.len.ensures, c.len-start.ensures)
