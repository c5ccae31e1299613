use Rattle.std.proofs.Common.{refl, ap, ◌∙◌}
use Rattle.std.proofs.lemmas.Result.{IfErr-weaker, on_ok_weaker}
use Rattle.qq_cluster.specs.Active.{is_in}
use Rattle.qq_cluster.proofs.Rising.{in-put_own}
use Rattle.qq_cluster.proofs.OneQueue.{served-woken}
use Rattle.qq_cluster.proofs.Stands.{gave_up-same}
use Rattle.qq_cluster.proofs.nodes.Nodes.wake.Goals as goal

pub returns-clause-ok : goal.returns-clause-ok
returns-clause-ok g c =
    on_ok_weaker c.add.result
    (λ added text. served-woken c.args.at c.args.self.now (record c.args.self.now { active = c.add.new.self }) text
    c.requires refl added) c.add.ensures.ok

pub returns-clause-active : goal.returns-clause-active
returns-clause-active g c =
    on_ok_weaker c.add.result
    (λ added. ap (is_in c.args.at) added ∙ in-put_own c.args.at c.args.self.now.active) c.add.ensures.ok

pub returns-clause-err : goal.returns-clause-err
returns-clause-err g c =
    IfErr-weaker c.add.result _ _
    (λ memory want. gave_up-same c.args.self.now (record c.args.self.now { active = c.add.new.self }) memory refl want)
    c.add.ensures.want
