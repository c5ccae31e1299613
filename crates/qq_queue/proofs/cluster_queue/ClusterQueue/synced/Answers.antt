use Rattle.std.proofs.Common.{refl, sym, ◌∙◌}
use Rattle.qq_group.specs.Group.{server_at}
use Rattle.qq_queue.proofs.Finding.{none-of, some-of, syncs-down, syncs-up}
use Rattle.qq_queue.proofs.cluster_queue.ClusterQueue.synced.Goals as goal

pub returns-then-not-up-clause-ok : goal.returns-then-not-up-clause-ok
returns-then-not-up-clause-ok c =
    syncs-down c.args.node.0 c.args.self.now c.args.self.now
    (none-of (server_at c.args.node.0 c.args.self.now.group) (sym c.is_up-up.ensures ∙ c.if-not-up.true)) refl

pub returns-clause-ok : goal.returns-clause-ok
returns-clause-ok c =
    let up = some-of (server_at c.args.node.0 c.args.self.now.group) (sym c.is_up-up.ensures ∙ c.if-not-up.false) in
    syncs-up c.args.node.0 up.0 c.args.self.now (record c.args.self.now { synced = c.set.new.self })
    c.handed-count.result up.1 c.handed-count.ensures c.set.ensures refl refl refl refl refl refl
