use Rattle.std.proofs.Common.{refl}
use Rattle.qq_opening.proofs.Recovering.{may-read, recovered, refused}
use Rattle.qq_opening.proofs.stepping.recover_own.Goals as goal

pub recover_log-requires-clause-whole : goal.recover_log-requires-clause-whole
recover_log-requires-clause-whole g c =
    may-read g.D.NodeDisk.facts c.args.node.now c.in-Some.log c.deref.result.now c.into_disk.result c.requires.own
    (cc) c.into_disk.ensures c.deref.ensures.value

pub returns-in-Ok-clause-ok : goal.returns-in-Ok-clause-ok
returns-in-Ok-clause-ok g c =
    recovered c.args.node.now _ c.in-Some.log (cc) c.args.log_bytes c.in-Ok.found c.deref.result.now c.into_disk.result
    c.into_disk.ensures c.deref.ensures.value c.in-Ok.ensures.ok c.in-Ok.ensures.same refl

pub returns-in-Err-clause-err : goal.returns-in-Err-clause-err
returns-in-Err-clause-err g c =
    refused c.args.node.now _ c.in-Some.log (cc) c.in-Err.fault c.in-Err.disk c.deref.result.now c.into_disk.result
    c.into_disk.ensures c.deref.ensures.value c.in-Err.ensures.same c.in-Err.ensures.fails c.in-Err.ensures.refused
    c.in-Err.ensures.spent c.in-Err.ensures.cause refl
