use Rattle.std.proofs.Common.{◌<◌, ◌+◌, length, arith}
use Rattle.qq_ports.specs.declared.fault.TheConstants.{LINE_LIMIT}
use Rattle.qq_ports.proofs.Pieces.{too_long}
use Rattle.qq_ports.proofs.lines.take_to_feed.Goals as goal

pub returns-then-not-has_room-clause-cause : goal.returns-then-not-has_room-clause-cause
returns-then-not-has_room-clause-cause c =
    let long : LINE_LIMIT < length c.args.raw.now.items + c.prefix_length-length.result = omega
    (arith, c.if-not-has_room.ensures, c.args.raw.now.ok.0) in
    λ clean. too_long c.args.raw.now.items c.args.pending.now c.prefix_length-length.result
    c.prefix_length-length.ensures.within long c.prefix_length-length.ensures.clean clean
