use Rattle.std.proofs.Common.{List, ℕ, ap, sym, subst, ◌∙◌, leb, length, arith}
use Rattle.std.specs.Prelude.{◌+◌, ◌-◌, ◌*◌}
use Rattle.std.proofs.lemmas.Bool.{lt-leb}
use Rattle.qq_wal_record.specs.declared.header.Header.{Header}
use Rattle.qq_wal.specs.declared.marks.Mark.{Mark}
use Rattle.qq_wal.specs.declared.numbers.Numbers.{Numbers}
use Rattle.std.specs.List.{AllByRecursion}
use Rattle.qq_wal.specs.Marks.{HasCarry, add_records, carries_in, known}
use Rattle.qq_wal.specs.Notices.{notices_in, synced_in}
use Rattle.qq_wal.specs.Ranges.{AllRanges, in_file, ranges_in}
use Rattle.qq_wal.specs.Waiting.{WaitingRecords}
use Rattle.qq_disk_pins.proofs.Lying.{begun-lies}
use Rattle.qq_disk_pins.proofs.Sizes.{first-size}
use Rattle.qq_disk_pins.proofs.calls.a_new_file_goes_on_from_the_old_one.Goals as goal

pub returns-clause-names : goal.returns-clause-names
returns-clause-names g c = λ old new r. (
  ap (λ (h : Header). h.file) r.header,
  ap (λ (h : Header). h.previous) r.header,
  ap (λ (h : Header). h.good) r.header,
)

pub returns-clause-newer : goal.returns-clause-newer
returns-clause-newer g c = λ old new s r. omega (arith, s.number, ap (λ (h : Header). h.file) r.header)

pub returns-clause-size : goal.returns-clause-size
returns-clause-size g c = λ old new s r.
    let e = c.encodings_have_lengths.ensures in
    r.size ∙ first-size e.records e.headers new.header new.marks
    (subst (λ (l : List Mark). AllByRecursion HasCarry l) (sym r.marks) s.carries)
    ∙ ap (λ (l : List Mark). 38 + 78 * length (carries_in l)) r.marks

pub returns-clause-numbers : goal.returns-clause-numbers
returns-clause-numbers g c = λ old new r. (
  ap (λ (n : Numbers). n.log) r.numbers ∙ sym (ap (λ (h : Header). h.file) r.header),
  ap (λ (n : Numbers). n.segment) r.numbers,
  ap (λ (n : Numbers). n.snapshot) r.numbers,
)

pub returns-clause-full : goal.returns-clause-full
returns-clause-full g c = λ old new bytes r. ap (λ (n : ℕ). leb n bytes) r.log_bytes

pub returns-clause-fresh : goal.returns-clause-fresh
returns-clause-fresh g c = λ old new r some.
    lt-leb new.log_bytes (new.size - new.first) (omega (arith, r.first, r.log_bytes, some))

pub returns-clause-waits : goal.returns-clause-waits
returns-clause-waits g c = λ old new id r. (
  ap (λ (w : WaitingRecords). w.items) r.waiting,
  ap (λ (w : WaitingRecords). add_records (known new.marks) w.items) r.waiting
      ∙ ap (λ (l : List Mark). add_records (known l) old.waiting.items) r.marks,
  ap (λ (l : List Mark). synced_in l id) r.marks,
  ap notices_in r.marks,
)

pub returns-clause-ready : goal.returns-clause-ready
returns-clause-ready g c = λ old new r clean. (r.dirty ∙ clean, r.stopped)

pub returns-clause-entries : goal.returns-clause-entries
returns-clause-entries g c = λ old new id file r listed.
    ap (λ (all : AllRanges). in_file all id file) r.ranges
    ∙ begun-lies new.header.file (ranges_in old.ranges) id old.queues.items file listed
