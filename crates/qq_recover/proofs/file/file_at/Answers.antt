use Rattle.std.proofs.Common.{◌≡◌, sym, subst, Result, Ok}
use Rattle.qq_wal_record.specs.declared.header.Header.{Header}
use Rattle.qq_wal_record.specs.declared.header.NoHeader.{NoHeader}
use Rattle.qq_recover.specs.declared.file.ChainFile.{ChainFile}
use Rattle.qq_recover.specs.Answer.{Answer, Fails, Gives}
use Rattle.qq_recover.specs.Files.{header_of}
use Rattle.qq_recover.proofs.Counted.{refused, whole}
use Rattle.qq_recover.proofs.file.file_at.Goals as goal

pub returns-in-Err-clause-gives : goal.returns-in-Err-clause-gives
returns-in-Err-clause-gives c = λ queues.
    refused queues (c.the_log_has_a_format.ensures queues) c.args.number c.requires.some c.args.bytes.now c.args.good
    c.in-Err.fault
    (subst (λ (read : Result Header NoHeader). Fails c.in-Err.fault (header_of c.args.number read))
    c.read_header.ensures.exact c.in-Err.ensures.gives)

pub returns-in-Ok-clause-gives : goal.returns-in-Ok-clause-gives
returns-in-Ok-clause-gives c = λ queues.
    subst (λ (read : Answer (Header × ChainFile)). Gives (λ x. x) c.counted_file.result read)
    (sym (whole queues (c.the_log_has_a_format.ensures queues) c.args.number c.requires.some c.args.bytes.now
    c.args.good c.in-Ok.header
    (subst (λ (read : Result Header NoHeader). header_of c.args.number read ≡ Ok c.in-Ok.header)
    c.read_header.ensures.exact c.in-Ok.ensures.gives)))
    (c.counted_file.ensures.gives queues)
