use Rattle.std.proofs.Common.{◌∷◌, [], refl}
use Rattle.qq_disk.specs.Disk.{content, now}
use Rattle.qq_disk.specs.Image.{log_of}
use Rattle.qq_dump.proofs.Written.{unread}
use Rattle.qq_dump.proofs.logs.dump_log.Goals as goal

pub returns-in-Err-clause-err : goal.returns-in-Err-clause-err
returns-in-Err-clause-err g c =
    let bytes = content (now (g.D.NodeDisk.facts.past c.args.disk.now)) (log_of c.args.number) in (
      bytes,
      λ told. refl,
      unread c.in-Err.fault c.from.result (g.O.Sink.written c.args.output.now)
          (record { number = c.args.number; bytes = bytes } ∷ []) c.from.ensures,
    )
