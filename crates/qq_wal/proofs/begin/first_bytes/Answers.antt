use Rattle.std.proofs.Common.{List, ℕ, ◌++◌, length, map, ap, ◌∙◌}
use Rattle.qq_wal_record.specs.declared.record.LogRecord.TheVariants.{Carry as CarryRecord}
use Rattle.qq_wal_record.specs.Encoding.{header_encoding}
use Rattle.qq_wal.specs.Batch.{encodings}
use Rattle.qq_wal.specs.Marks.{carries_in}
use Rattle.qq_wal.proofs.Batches.{first_is}
use Rattle.qq_wal.proofs.begin.first_bytes.Goals as goal

pub returns-clause-ok : goal.returns-clause-ok
returns-clause-ok c = λ queues.
    first_is queues c.args.header (map CarryRecord (carries_in c.args.marks.now)) c.new-bytes.result.items
    c.write_header.new.out.items c.put_carries.new.out.items c.new-bytes.ensures.items
    c.in_ok-write_header.ensures.ok c.in_ok-put_carries.ensures.ok

pub returns-clause-length : goal.returns-clause-length
returns-clause-length c =
    ap length (c.in_ok-put_carries.ensures.ok
    ∙ ap (λ (bs : List ℕ). bs ++ encodings c.args.header.file (map CarryRecord (carries_in c.args.marks.now)))
    (c.in_ok-write_header.ensures.ok ∙ ap (λ (bs : List ℕ). bs ++ header_encoding c.args.header) c.new-bytes.ensures.items))
