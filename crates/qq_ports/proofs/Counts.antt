-- Which calls of a yard fail, and how many are counted.
use Rattle.std.proofs.Common.{◌≡◌, ◌<◌, ◌+◌, ◌-◌, ◌^◌, ℕ, Bool, true, false, refl, ap, sym, ◌∙◌, inl, inr, arith, if◌then◌else◌}
use Rattle.std.specs.Prelude.{Result, nat_eq}
use Rattle.std.specs.List.{list_any}
use Rattle.qq_base.specs.declared.memory.Memory.{Memory}
use Rattle.qq_base.specs.declared.memory.Memory.TheVariants.{Want}
use Rattle.qq_mem_disk.specs.declared.mem_disk.MemDisk.{MemDisk}
use Rattle.qq_ports.specs.declared.yard_fault.YardFault.{YardFault}
use Rattle.qq_ports.specs.declared.yard_fault.YardFault.TheVariants.{Failed, Memory as OfMemory}
use Rattle.qq_ports.specs.declared.mem_yard.MemYard.{MemYard}
use Rattle.qq_ports.specs.Yard.{IsYardCaused}
use Rattle.qq_base.specs.Causes.{raise}
use Rattle.qq_ports.specs.MemYard.{CountsCall, has_failed, fault_count}

pub counted : (count : ℕ) (fault : YardFault) → count < 2 ^ 64 - 1 → IsYardCaused count count fault
    → fault ≡ OfMemory Want
counted count Failed short (inl less) = absurd (omega arith)
counted count Failed short (inr end) = absurd (omega arith)
counted count (OfMemory m) short want = ap (λ (w : Memory). OfMemory w) want

pub second_fails : (old mid new : MemYard) (first second : Result MemDisk YardFault) → old.calls ≡ 0
    → CountsCall old mid first → CountsCall mid new second
    → has_failed second ≡ list_any (λ n. nat_eq n 2) old.fails.items
second_fails old mid new first second zero a b =
    let once : mid.calls ≡ 1 = a.calls ∙ ap raise zero in
    b.failed ∙ rw once (rw a.fails refl)

faults_by : (x y : Bool) (m n : ℕ) → m ≡ (if x then raise 0 else 0) → n ≡ (if y then raise m else m)
    → n ≡ (if x then 1 else 0) + (if y then 1 else 0)
faults_by true true m n one two = two ∙ ap raise one
faults_by true false m n one two = two ∙ one
faults_by false true m n one two = two ∙ ap raise one
faults_by false false m n one two = two ∙ one

pub faults_of_two : (old mid new : MemYard) (first second : Result MemDisk YardFault) → old.faults ≡ 0
    → CountsCall old mid first → CountsCall mid new second → new.faults ≡ fault_count first + fault_count second
faults_of_two old mid new first second zero a b =
    faults_by (has_failed first) (has_failed second) mid.faults new.faults
    (a.faults ∙ ap (λ (t : Bool). if t then raise old.faults else old.faults) (sym a.failed)
    ∙ ap (λ (k : ℕ). if has_failed first then raise k else k) zero)
    (b.faults ∙ ap (λ (t : Bool). if t then raise mid.faults else mid.faults) (sym b.failed))
