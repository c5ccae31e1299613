-- Which calls of a shelf in memory fail, and how many are counted.
use Rattle.std.proofs.Common.{◌≡◌, ◌+◌, ◌||◌, ℕ, Bool, true, false, List, not, is_some, refl, ap, sym, ◌∙◌, if◌then◌else◌}
use Rattle.std.specs.Prelude.{Result, nat_eq}
use Rattle.std.specs.List.{list_any}
use Rattle.qq_ports.specs.declared.shelf.ShelfFault.{ShelfFault}
use Rattle.qq_ports.specs.declared.mem_shelf.MemShelf.{MemShelf}
use Rattle.qq_base.specs.Causes.{raise}
use Rattle.qq_ports.specs.Shelf.{CountsFetch, has_failed, fault_count, mem_file}

pub second_fails : (old mid new : MemShelf) (a b : List ℕ) (first second : Result (List ℕ) ShelfFault)
    → old.calls ≡ 0 → CountsFetch old mid a first → CountsFetch mid new b second
    → has_failed second ≡ (list_any (λ n. nat_eq n 2) old.fails.items || not (is_some (mem_file old b)))
second_fails old mid new a b first second zero one two =
    let once : mid.calls ≡ 1 = one.calls ∙ ap raise zero in
    two.failed ∙ rw once (rw one.fails (rw one.files refl))

faults_by : (x y : Bool) (m n : ℕ) → m ≡ (if x then raise 0 else 0) → n ≡ (if y then raise m else m)
    → n ≡ (if x then 1 else 0) + (if y then 1 else 0)
faults_by true true m n one two = two ∙ ap raise one
faults_by true false m n one two = two ∙ one
faults_by false true m n one two = two ∙ ap raise one
faults_by false false m n one two = two ∙ one

pub faults_of_two : (old mid new : MemShelf) (a b : List ℕ) (first second : Result (List ℕ) ShelfFault)
    → old.faults ≡ 0 → CountsFetch old mid a first → CountsFetch mid new b second
    → new.faults ≡ fault_count first + fault_count second
faults_of_two old mid new a b first second zero one two =
    faults_by (has_failed first) (has_failed second) mid.faults new.faults
    (one.faults ∙ ap (λ (t : Bool). if t then raise old.faults else old.faults) (sym one.failed)
    ∙ ap (λ (k : ℕ). if has_failed first then raise k else k) zero)
    (two.faults ∙ ap (λ (t : Bool). if t then raise mid.faults else mid.faults) (sym two.failed))
