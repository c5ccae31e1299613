use Rattle.qq_raft.proofs.Entries.{next-of}
use Rattle.qq_raft.proofs.applying.apply_entry.Goals as goal

pub returns-in_ok-keep_row-in-Ok-clause-ok : goal.returns-in_ok-keep_row-in-Ok-clause-ok
returns-in_ok-keep_row-in-Ok-clause-ok g c = λ queue f.
    next-of g.Q.Queue.stands (g.Q.Queue.step queue c.args.index c.args.entry.now) c.args.index c.args.entry.now
    c.args.shown c.args.rows.now.items c.keep_row.new.rows.items c.in-Ok.made c.apply.new.self
    (c.in-Ok.ensures.ok queue f) c.in_ok-keep_row-in-Ok.ensures.ok
