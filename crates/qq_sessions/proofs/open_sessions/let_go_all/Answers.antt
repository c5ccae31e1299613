use Rattle.std.proofs.Common.{arith}
use Rattle.qq_sessions.specs.Row.{open_of}
use Rattle.qq_sessions.proofs.Holders.{removes-one}
use Rattle.qq_sessions.proofs.open_sessions.let_go_all.Goals as goal

pub returns-clause-named : goal.returns-clause-named
returns-clause-named c =
    removes-one (open_of c.args.row.now) c.len.result c.args.named.now.indices c.let_go_first.new.named.indices
    (omega (arith, c.len.ensures, c.args.row.now.kept.ok.0))
    c.let_go_first.ensures.named
