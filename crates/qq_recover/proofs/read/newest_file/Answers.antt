use Rattle.std.proofs.Common.{◌≡◌, ◌≤◌, ◌∙◌, ℕ, List, length, ap, sym, subst, arith}
use Rattle.std.proofs.lemmas.List.{drop_all}
use Rattle.qq_disk.specs.declared.name.FileName.{FileName}
use Rattle.qq_disk.specs.Disk.{now}
use Rattle.qq_recover.specs.Newest.{has_log, newest_of}
use Rattle.qq_wal.specs.Running.{top}
use Rattle.qq_recover.specs.Reading.{shown}
use Rattle.qq_wal.proofs.Steps.{in_top}
use Rattle.qq_recover.proofs.NewestLaws.{newest-listed}
use Rattle.qq_recover.proofs.read.newest_file.Goals as goal

pub returns-clause-ok : goal.returns-clause-ok
returns-clause-ok g c = λ told listing queues.
    let d = now (g.D.NodeDisk.facts.past c.args.disk.now) in
    let over : length c.args.names.now ≤ c.loop-name.name-index = omega arith in
    let is : c.loop-name.newest ≡ newest_of (has_log (shown d)) 0 c.args.names.now =
    sym (ap (λ (names : List FileName). newest_of (has_log (shown d)) c.loop-name.newest names)
    (drop_all c.loop-name.name-index c.args.names.now over)) ∙ c.loop-name.invariant.newest told in
    is ∙ newest-listed d c.args.names.now listing queues
    (subst (λ (n : ℕ). n ≤ top) is (in_top c.loop-name.newest c.loop-name.invariant.within))
