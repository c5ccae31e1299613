use Rattle.std.proofs.Common.{◌∙◌, Some, ap, sym}
use Rattle.qq_disk.specs.Disk.{now, contents}
use Rattle.qq_recover.proofs.NewestLaws.{listed-shows, unlisted-absent}
use Rattle.qq_recover.proofs.read.read_listed.Goals as goal

pub returns-then-is_among-clause-ok : goal.returns-then-is_among-clause-ok
returns-then-is_among-clause-ok g c = λ told listing.
    let d = now (g.D.NodeDisk.facts.past c.args.disk.now) in
    ap Some (c.in_ok-read_file.ensures.ok told)
    ∙ sym (listed-shows d c.args.names.now listing c.log_of-file.result
    (sym c.is_among.ensures ∙ c.if-is_among.true))
    ∙ ap (contents d) c.log_of-file.ensures

pub returns-clause-ok : goal.returns-clause-ok
returns-clause-ok g c = λ told listing.
    let d = now (g.D.NodeDisk.facts.past c.args.disk.now) in
    sym (unlisted-absent d c.args.names.now listing c.log_of-file.result
    (sym c.is_among.ensures ∙ c.if-is_among.false))
    ∙ ap (contents d) c.log_of-file.ensures
