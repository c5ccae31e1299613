use Rattle.std.proofs.Common.{refl, sym, subst}
use Rattle.std.proofs.lemmas.Result.{IfErr-weaker, on_ok_weaker}
use Rattle.qq_cluster_model.specs.Queue.{Mutes, happens}
use Rattle.qq_cluster_model.specs.Cluster.{MutesEach}
use Rattle.qq_queue.specs.ClusterQueue.{Stands as IsQueue}
use Rattle.qq_queue.specs.Sessions.{Standings, standings}
use Rattle.qq_cluster.proofs.LineRules.{served-alike}
use Rattle.qq_cluster.proofs.Stands.{gave_up-same}
use Rattle.qq_cluster.proofs.nodes.Nodes.mute.Goals as goal

pub returns-clause-ok : goal.returns-clause-ok
returns-clause-ok g c =
    on_ok_weaker c.mute.result
    (λ done text. served-alike (MutesEach c.args.session c.args.muted) c.args.self.now
    (record c.args.self.now { sessions = c.mute.new.self }) text refl (λ q. refl)
    (λ d q st. subst (λ (s : Standings). IsQueue s d (happens q (Mutes c.args.session c.args.muted))) (sym done)
    (c.sessions_are_those_of_each_queue.ensures.mutes (standings c.args.self.now.sessions) c.args.session
    c.args.muted d q st).0)) c.mute.ensures.ok

pub returns-clause-err : goal.returns-clause-err
returns-clause-err g c =
    IfErr-weaker c.mute.result _ _
    (λ memory want. gave_up-same c.args.self.now (record c.args.self.now { sessions = c.mute.new.self }) memory refl want)
    c.mute.ensures.want
