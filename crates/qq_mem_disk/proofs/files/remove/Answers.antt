use Rattle.std.proofs.Common.{◌≡◌, Some, rules, subst, sym}
use Rattle.qq_disk.specs.Disk.{remove}
use Rattle.qq_mem_disk.specs.Files.{disk_of, IsUndone}
use Rattle.qq_mem_disk.specs.declared.change.Mark.{Mark}
use Rattle.qq_mem_disk.specs.declared.change.Before.TheVariants.{Earlier}
use Rattle.qq_mem_disk.proofs.Undo.{undone_remove}
use Rattle.qq_mem_disk.proofs.files.remove.Goals as goal

pub returns-in-Some-clause-before : goal.returns-in-Some-clause-before
returns-in-Some-clause-before c =
    let old = disk_of c.args.files.now in
    let new = disk_of (c.get_mut.follows.lender c.mark_removed.new.self) in
    let here : old c.args.name ≡ Some c.in-Some.file.now = search rules in
    let is : new ≡ remove old c.args.name = search rules in
    subst (λ (mark : Mark). IsUndone c.args.name (Earlier mark) old new) (sym c.mark-mark.ensures)
    (undone_remove old new c.args.name c.in-Some.file.now here is)
