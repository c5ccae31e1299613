use Rattle.std.proofs.Common.{◌≡◌, ◌∙◌, Some, None, sym, rules}
use Rattle.std.proofs.lemmas.Result.{IfOk-weaker, on_err_weaker}
use Rattle.qq_disk.specs.Disk.{set}
use Rattle.qq_mem_disk.specs.Files.{disk_of, IsUndone}
use Rattle.qq_mem_disk.specs.Change.{before_of}
use Rattle.qq_mem_disk.proofs.Undo.{undone_set, undone_new, set_found}
use Rattle.qq_mem_disk.proofs.files.append.Goals as goal

pub returns-in-Some-clause-before : goal.returns-in-Some-clause-before
returns-in-Some-clause-before c =
    let old = disk_of c.args.files.now in
    let new = disk_of (c.get_mut.follows.lender c.append.new.self) in
    let here : old c.args.name ≡ Some c.in-Some.file.now = search rules in
    let is : new ≡ set old c.args.name (Some c.append.new.self) = search rules in
    IfOk-weaker c.append.result (λ before. before_of before (Some c.append.new.self) ≡ Some c.in-Some.file.now)
    (λ before. IsUndone c.args.name before old new)
    (λ before back. undone_set old new c.args.name before (Some c.append.new.self) is (back ∙ sym here))
    c.append.ensures.before

pub returns-in-Some-clause-err : goal.returns-in-Some-clause-err
returns-in-Some-clause-err c =
    let old = disk_of c.args.files.now in
    let new = disk_of (c.get_mut.follows.lender c.append.new.self) in
    let here : old c.args.name ≡ Some c.in-Some.file.now = search rules in
    let is : new ≡ set old c.args.name (Some c.append.new.self) = search rules in
    on_err_weaker c.append.result
    (λ same. set_found old new c.args.name c.in-Some.file.now c.append.new.self here is same) c.append.ensures.err

pub returns-clause-before : goal.returns-clause-before
returns-clause-before c =
    let old = disk_of c.args.files.now in
    let here : old c.args.name ≡ None = search rules in
    let is : disk_of c.insert.new.self ≡ set old c.args.name (Some c.new-file.result) = search rules in
    undone_new old (disk_of c.insert.new.self) c.args.name c.new-file.result here is
