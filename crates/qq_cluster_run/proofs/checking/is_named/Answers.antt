use Rattle.std.proofs.Common.{sym, subst}
use Rattle.qq_cluster_run.specs.Named.{IsNamed}
use Rattle.qq_cluster_run.specs.Setup.{cluster_over}
use Rattle.qq_cluster_run.proofs.checking.is_named.Goals as goal

pub returns-in-Send : goal.returns-in-Send
returns-in-Send c =
    λ logs is. subst (IsNamed (cluster_over c.args.setup.now logs)) (sym c.in-Send.is) (c.is_sent.ensures is)

pub returns-in-Client : goal.returns-in-Client
returns-in-Client c =
    λ logs is. subst (IsNamed (cluster_over c.args.setup.now logs)) (sym c.in-Client.is) (c.is_asked.ensures is)

pub returns-in-Write : goal.returns-in-Write
returns-in-Write c =
    λ logs is. subst (IsNamed (cluster_over c.args.setup.now logs)) (sym c.in-Write.is) (c.is_node.ensures is)

pub returns-in-Tick : goal.returns-in-Tick
returns-in-Tick c =
    λ logs is. subst (IsNamed (cluster_over c.args.setup.now logs)) (sym c.in-Tick.is) (c.is_member.ensures is)

pub returns-in-Crash : goal.returns-in-Crash
returns-in-Crash c =
    λ logs is. subst (IsNamed (cluster_over c.args.setup.now logs)) (sym c.in-Crash.is) (c.is_one.ensures logs is)

pub returns-in-Restart : goal.returns-in-Restart
returns-in-Restart c =
    λ logs is. subst (IsNamed (cluster_over c.args.setup.now logs)) (sym c.in-Restart.is) (c.is_one-in-Restart.ensures logs is)
