use Rattle.std.proofs.Common.{ℕ, ap, sym, subst, ◌∙◌, leb, ◌≤◌, arith}
use Rattle.qq_disk.specs.Image.{log_of}
use Rattle.qq_wal.specs.declared.numbers.Numbers.{Numbers}
use Rattle.qq_wal.specs.Numbers.{number_of}
use Rattle.qq_recover.specs.Recovered.{wal_of}
use Rattle.qq_disk_pins.proofs.Numbers.{first-above, listed-below}
use Rattle.qq_disk_pins.proofs.Sizes.{first-size}
use Rattle.qq_disk_pins.proofs.begun.a_recovered_log_goes_on_behind_what_was_read.Goals as goal

pub returns-clause-newest : goal.returns-clause-newest
returns-clause-newest g c = λ queues log_bytes d r b. (b.newest.file_is, b.newest.good_is)

pub returns-clause-above : goal.returns-clause-above
returns-clause-above g c = λ queues log_bytes d r number b here.
    omega (arith, listed-below b.names (log_of number) ((b.listing.listed (log_of number)).1 here), b.above.file)

pub returns-clause-numbers : goal.returns-clause-numbers
returns-clause-numbers g c = λ queues log_bytes d r file b here.
    subst (λ (n : Numbers). file.number ≤ number_of file.kind n) (sym b.above.begun.numbers)
    (first-above (wal_of r).header b.names file (omega (arith, b.above.file)) ((b.listing.listed file).1 here))

pub returns-clause-ready : goal.returns-clause-ready
returns-clause-ready g c = λ queues log_bytes r new. (
  new.above.queues_are,
  new.above.begun.waiting,
  new.above.begun.going,
  new.above.begun.clean,
)

pub returns-clause-full : goal.returns-clause-full
returns-clause-full g c = λ queues log_bytes bytes r new. ap (λ (n : ℕ). leb n bytes) new.above.begun.limit

pub returns-clause-size : goal.returns-clause-size
returns-clause-size g c = λ queues log_bytes r sound new.
    let e = c.encodings_have_lengths.ensures in
    new.above.begun.size ∙ first-size e.records e.headers (wal_of r).header (wal_of r).marks sound.carries
