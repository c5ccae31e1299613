use Rattle.std.proofs.Common.{List, ℕ, ◌-◌, arith, ap, sym, subst, ◌∙◌, leb, ◌≤◌}
use Rattle.std.proofs.lemmas.Bool.{lt-leb}
use Rattle.std.specs.List.{AllByRecursion}
use Rattle.std.proofs.lemmas.List.Elements.{recursion_from_All}
use Rattle.qq_wal.specs.declared.marks.Mark.{Mark}
use Rattle.qq_wal.specs.declared.numbers.Numbers.{Numbers}
use Rattle.qq_wal.specs.Marks.{HasCarry, IsCarry}
use Rattle.qq_wal.specs.Numbers.{number_of}
use Rattle.qq_wal.proofs.Agreeing.{begun-carries}
use Rattle.qq_disk_pins.proofs.Numbers.{first-above}
use Rattle.qq_disk_pins.proofs.Sizes.{first-size}
use Rattle.qq_disk_pins.proofs.begun.a_new_log_is_ready.Goals as goal

pub returns-clause-ready : goal.returns-clause-ready
returns-clause-ready g c = λ queues header carries names ranges log_bytes w b. (b.waiting, b.going, b.clean)

pub returns-clause-size : goal.returns-clause-size
returns-clause-size g c = λ queues header carries names ranges log_bytes w each b.
    let e = c.encodings_have_lengths.ensures in
    b.size ∙ first-size e.records e.headers header w.marks
    (subst (λ (l : List Mark). AllByRecursion HasCarry l) (sym b.marks)
    (begun-carries carries queues.items (recursion_from_All IsCarry carries each)))

pub returns-clause-full : goal.returns-clause-full
returns-clause-full g c = λ queues header carries names ranges log_bytes bytes w b.
    ap (λ (n : ℕ). leb n bytes) b.limit

pub returns-clause-fresh : goal.returns-clause-fresh
returns-clause-fresh g c = λ queues header carries names ranges log_bytes w b some.
    lt-leb w.log_bytes (w.size - w.first) (omega (arith, b.first, b.limit, some))

pub returns-clause-numbers : goal.returns-clause-numbers
returns-clause-numbers g c = λ queues header carries names ranges log_bytes w file newer b has.
    subst (λ (n : Numbers). file.number ≤ number_of file.kind n) (sym b.numbers)
    (first-above header names file newer has)
