use Rattle.std.proofs.Common.{◌≡◌, ◌∙◌, ◌+◌, ℕ, List, Ok, Err, length, drop, ap, sym}
use Rattle.qq_wal_chain.specs.Records.{encode_all, records}
use Rattle.qq_wal_chain.specs.Wal.{wal}
use Rattle.qq_recover.specs.declared.fault.RecoverFault.TheVariants.{Damaged}
use Rattle.qq_recover.specs.Placed.{placed}
use Rattle.qq_recover.specs.Files.{is_short, counted_file, good_bytes}
use Rattle.qq_recover.proofs.Counted.{ended, unended}
use Rattle.qq_recover.proofs.file.counted_file.Goals as goal

pub returns-then-is_short-clause-gives : goal.returns-then-is_short-clause-gives
returns-then-is_short-clause-gives c = λ queues.
    let bytes : c.behind_header-counted.result.now ≡ drop 38 (good_bytes c.args.good c.args.bytes.now) =
    c.behind_header-counted.ensures ∙ ap (drop 38) c.good_bytes.ensures in
    let end : c.in_ok-records.end ≡ (counted_file queues c.args.number c.args.good c.args.bytes.now).end =
    c.in_ok-records.ensures.end queues
    ∙ ap (λ (bs : List ℕ). 38 + length (encode_all (wal queues) c.args.number (records (wal queues) c.args.number bs)))
    bytes in
    unended queues (c.the_log_has_a_format.ensures queues) c.args.number c.requires.some c.args.bytes.now c.args.good
    c.args.header (sym (ap (is_short c.args.good) end) ∙ sym c.is_short.ensures ∙ c.if-is_short.true)
    ∙ sym (λ i. Err (Damaged (c.log_of.ensures i) (end i)))

pub returns-clause-gives : goal.returns-clause-gives
returns-clause-gives c = λ queues.
    let bytes : c.behind_header-counted.result.now ≡ drop 38 (good_bytes c.args.good c.args.bytes.now) =
    c.behind_header-counted.ensures ∙ ap (drop 38) c.good_bytes.ensures in
    let end : c.in_ok-records.end ≡ (counted_file queues c.args.number c.args.good c.args.bytes.now).end =
    c.in_ok-records.ensures.end queues
    ∙ ap (λ (bs : List ℕ). 38 + length (encode_all (wal queues) c.args.number (records (wal queues) c.args.number bs)))
    bytes in
    let items : c.in_ok-records.records.items ≡ (counted_file queues c.args.number c.args.good c.args.bytes.now).records =
    c.in_ok-records.ensures.records queues
    ∙ ap (λ (bs : List ℕ). placed c.args.number 38 (records (wal queues) c.args.number bs)) bytes in
    ended queues (c.the_log_has_a_format.ensures queues) c.args.number c.requires.some c.args.bytes.now c.args.good
    c.args.header (sym (ap (is_short c.args.good) end) ∙ sym c.is_short.ensures ∙ c.if-is_short.false)
    ∙ sym (λ i. Ok (c.args.header, record { number = c.args.number; end = end i; records = (c.from_vec.ensures ∙ items) i }))
