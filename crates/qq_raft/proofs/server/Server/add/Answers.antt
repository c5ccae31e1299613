use Rattle.std.proofs.Common.{refl}
use Rattle.qq_raft.proofs.server.Server.add.Goals as goal

pub returns-clause-ok : goal.returns-clause-ok
returns-clause-ok g c = λ queue f.
    record { raft = c.in_default.ensures.ok; queue = f; applied = refl; rows = refl }
