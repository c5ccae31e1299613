-- What the counts of a port in memory come to.
use Rattle.std.proofs.Common.{◌≡◌, ℕ, List, Bool, Result, true, false, cond, ap, ◌∙◌}
use Rattle.qq_ports.specs.declared.source.Failed.{Failed}
use Rattle.qq_ports.specs.declared.mem_shelf.MemShelf.{MemShelf}
use Rattle.qq_ports.specs.declared.shelf.ShelfFault.{ShelfFault}
use Rattle.qq_ports.specs.Memory.{Counts, is_failed}
use Rattle.qq_base.specs.Causes.{raise}
use Rattle.qq_ports.specs.Shelf.{will_fail, has_failed, CountsFetch}

pub fails : (calls calls' faults faults' : ℕ) (result : Result ℕ Failed)
    → Counts true calls calls' faults faults' result
    → (calls' ≡ raise calls) × (faults' ≡ raise faults) × (is_failed result ≡ true)
fails calls calls' faults faults' result so = (so.counted, so.faults_rise, so.failed)

pub passes : (calls calls' faults faults' : ℕ) (result : Result ℕ Failed)
    → Counts false calls calls' faults faults' result
    → (calls' ≡ raise calls) × (faults' ≡ faults) × (is_failed result ≡ false)
passes calls calls' faults faults' result so = (so.counted, so.faults_rise, so.failed)

pub fetch_fails : (old new : MemShelf) (name : List ℕ) (result : Result ℕ ShelfFault)
    → CountsFetch old new name result → will_fail old name ≡ true
    → (new.calls ≡ raise old.calls) × (new.faults ≡ raise old.faults)
    × (has_failed result ≡ true) × (new.files ≡ old.files)
fetch_fails old new name result so is = (
  so.calls,
  so.faults ∙ ap (λ (b : Bool). cond b (raise old.faults) old.faults) is,
  so.failed ∙ is,
  so.files,
)

pub fetch_passes : (old new : MemShelf) (name : List ℕ) (result : Result ℕ ShelfFault)
    → CountsFetch old new name result → will_fail old name ≡ false
    → (new.calls ≡ raise old.calls) × (new.faults ≡ old.faults)
    × (has_failed result ≡ false) × (new.fails ≡ old.fails)
fetch_passes old new name result so is = (
  so.calls,
  so.faults ∙ ap (λ (b : Bool). cond b (raise old.faults) old.faults) is,
  so.failed ∙ is,
  so.fails,
)
