use Rattle.std.proofs.Common.{◌∙◌, ℕ, List, [], take, refl, ap, is_some}
use Rattle.qq_disk.specs.declared.name.FileName.{FileName}
use Rattle.qq_disk.specs.Disk.{now, content, contents}
use Rattle.qq_disk.specs.Image.{log_of}
use Rattle.qq_wal_chain.specs.Wal.{read_whole_header}
use Rattle.qq_recover.proofs.NewestLaws.{front-whole, content-whole}
use Rattle.qq_recover.proofs.read.has_whole_header.Goals as goal

pub returns-clause-ok : goal.returns-clause-ok
returns-clause-ok g c = λ told.
    let d = now (g.D.NodeDisk.facts.past c.args.disk.now) in
    c.is_whole_header.ensures
    ∙ ap (λ (bs : List ℕ). is_some (read_whole_header bs))
    (c.split_at.ensures.front ∙ ap (take c.in_ok-count.count) c.as_slice.ensures)
    ∙ ap is_some (front-whole (c.the_log_has_a_format.ensures []) (content d c.log_of.result) _ c.read.new.buf
    c.in_ok-count.count refl (c.in_ok-count.ensures.ok told))
    ∙ ap (λ (file : FileName). is_some (read_whole_header (content d file))) c.log_of.ensures
    ∙ content-whole (contents d (log_of c.args.number))
