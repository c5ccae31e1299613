use Rattle.std.proofs.Common.{◌+◌, refl, subst, sym}
use Rattle.std.specs.Prelude.{Option}
use Rattle.qq_queue.specs.declared.claim.Claim.{Claim}
use Rattle.qq_cluster.specs.Judging.{IsFollowed}
use Rattle.qq_cluster.specs.Nodes.{Served}
use Rattle.qq_cluster.proofs.Stands.{served-nothing}
use Rattle.qq_cluster.proofs.nodes.Nodes.follow.Goals as goal

pub returns-in-None-clause-ok : goal.returns-in-None-clause-ok
returns-in-None-clause-ok g c =
    subst
    (λ (o : Option Claim). Served g.D.NodeDisk.facts (λ setup. IsFollowed o (c.args.at + 1))
    c.args.self.now c.args.self.now c.args.told.now c.args.told.now)
    (sym c.in-None.is) (served-nothing c.args.self.now c.args.told.now (λ setup d r st. refl))
