use Rattle.std.proofs.Common.{◌-◌, sym, ◌∙◌, subst}
use Rattle.qq_base.proofs.Exits.{at_exit}
use Rattle.qq_cluster_model.specs.Queue.{Syncs as SyncsAt}
use Rattle.qq_cluster.specs.Active.{is_in}
use Rattle.qq_cluster.specs.Logs.{NodeTurns, Syncs}
use Rattle.qq_cluster.proofs.Items.{nodes-as, queues-sound}
use Rattle.qq_cluster.proofs.Synced.{may-sync, sync-down, sync-failed, sync-spent, sync-wants, synced, synced-failed}
use Rattle.qq_cluster.proofs.Turned.{turned-sound}
use Rattle.qq_cluster.proofs.nodes.Nodes.sync_up.Goals as goal

pub returns-then-not-up-clause-ok : goal.returns-then-not-up-clause-ok
returns-then-not-up-clause-ok g c =
    sync-down c.args.node.0 c.args.self.now c.args.told.now
    (λ setup d st. sym c.if-not-up.true ∙ c.is_up-up.ensures setup d st)

pub sync_in-requires-clause-may : goal.sync_in-requires-clause-may
sync_in-requires-clause-may g c =
    may-sync c.args.node.0 c.args.self.now c.requires.node.0 (λ setup d st. sym c.if-not-up.false ∙ c.is_up-up.ensures setup d st)
    c.requires.serve

pub returns-in_err-outcome-clause-err : goal.returns-in_err-outcome-clause-err
returns-in_err-outcome-clause-err g c =
    at_exit _ _ c.from_residual.ensures.1 (sync-spent c.args.node.0 c.args.self.now c.sync_in.new.nodes c.requires.node.0 c.requires.node.1
    (λ setup d st. sym c.if-not-up.false ∙ c.is_up-up.ensures setup d st)
    c.in_err-outcome.field-0.0 c.in_err-outcome.ensures.err)

pub mark_synced-requires-clause-sound : goal.mark_synced-requires-clause-sound
mark_synced-requires-clause-sound g c = queues-sound c.requires.serve

pub mark_synced-requires-in-NoFile-clause-sound : goal.mark_synced-requires-in-NoFile-clause-sound
mark_synced-requires-in-NoFile-clause-sound g c = queues-sound c.requires.serve

pub fail-requires-clause-sound : goal.fail-requires-clause-sound
fail-requires-clause-sound g c =
    turned-sound (λ at. is_in at c.args.self.now.active) (SyncsAt c.args.node.0) c.args.self.now.queues.items
    c.mark_synced-in-NoFile.new.self.queues.items (queues-sound c.requires.serve)
    c.mark_synced-in-NoFile.ensures.turns

pub returns-in_err-fail-in-NoFile-clause-err : goal.returns-in_err-fail-in-NoFile-clause-err
returns-in_err-fail-in-NoFile-clause-err g c =
    at_exit _ _ c.from_residual-in_err-fail-in-NoFile.ensures.1 (sync-wants c.args.node.0 c.args.self.now c.sync_in.new.nodes c.requires.node.0 c.requires.node.1
    (λ setup d st. sym c.if-not-up.false ∙ c.is_up-up.ensures setup d st)
    c.in_ok-outcome.outcome c.fail.new.self c.in_err-fail-in-NoFile.field-0.0 c.in_ok-outcome.ensures.ok
    (nodes-as c.fail.new.self c.mark_synced-in-NoFile.new.self c.in_err-fail-in-NoFile.ensures.err
    ∙ nodes-as c.mark_synced-in-NoFile.new.self _ c.mark_synced-in-NoFile.ensures.same) c.in_err-fail-in-NoFile.ensures.want)

pub fail-requires-in-Nothing-clause-sound : goal.fail-requires-in-Nothing-clause-sound
fail-requires-in-Nothing-clause-sound g c = queues-sound c.requires.serve

pub returns-in_err-fail-in-Nothing-clause-err : goal.returns-in_err-fail-in-Nothing-clause-err
returns-in_err-fail-in-Nothing-clause-err g c =
    at_exit _ _ c.from_residual-in_err-fail-in-Nothing.ensures.1 (sync-wants c.args.node.0 c.args.self.now c.sync_in.new.nodes c.requires.node.0 c.requires.node.1
    (λ setup d st. sym c.if-not-up.false ∙ c.is_up-up.ensures setup d st)
    c.in_ok-outcome.outcome c.fail-in-Nothing.new.self c.in_err-fail-in-Nothing.field-0.0 c.in_ok-outcome.ensures.ok
    (nodes-as c.fail-in-Nothing.new.self _ c.in_err-fail-in-Nothing.ensures.err) c.in_err-fail-in-Nothing.ensures.want)

pub returns-in-Whole-clause-ok : goal.returns-in-Whole-clause-ok
returns-in-Whole-clause-ok g c =
    synced c.args.node.0 c.args.self.now c.sync_in.new.nodes c.requires.node.0 c.requires.node.1
    (λ setup d st. sym c.if-not-up.false ∙ c.is_up-up.ensures setup d st)
    c.mark_synced.new.self c.args.told.now (subst
    (λ outcome. NodeTurns (Syncs g.D.NodeDisk.facts outcome) (c.args.node.0 - 1) c.args.self.now.nodes.items
    c.sync_in.new.nodes.items) c.in-Whole.is c.in_ok-outcome.ensures.ok) c.mark_synced.ensures

pub returns-in_ok-fail-in-NoFile-clause-ok : goal.returns-in_ok-fail-in-NoFile-clause-ok
returns-in_ok-fail-in-NoFile-clause-ok g c =
    synced-failed c.args.node.0 c.args.self.now c.sync_in.new.nodes c.requires.node.0 c.requires.node.1
    (λ setup d st. sym c.if-not-up.false ∙ c.is_up-up.ensures setup d st)
    c.mark_synced-in-NoFile.new.self c.fail.new.self c.args.told.now c.fail.new.told (subst
    (λ outcome. NodeTurns (Syncs g.D.NodeDisk.facts outcome) (c.args.node.0 - 1) c.args.self.now.nodes.items
    c.sync_in.new.nodes.items) c.in-NoFile.is c.in_ok-outcome.ensures.ok)
    c.mark_synced-in-NoFile.ensures c.in_ok-fail-in-NoFile.ensures.ok c.in_ok-fail-in-NoFile.ensures.says

pub returns-in_ok-fail-in-Nothing-clause-ok : goal.returns-in_ok-fail-in-Nothing-clause-ok
returns-in_ok-fail-in-Nothing-clause-ok g c =
    sync-failed c.args.node.0 c.args.self.now c.sync_in.new.nodes c.requires.node.0 c.requires.node.1
    (λ setup d st. sym c.if-not-up.false ∙ c.is_up-up.ensures setup d st)
    c.fail-in-Nothing.new.self c.args.told.now c.fail-in-Nothing.new.told (subst
    (λ outcome. NodeTurns (Syncs g.D.NodeDisk.facts outcome) (c.args.node.0 - 1) c.args.self.now.nodes.items
    c.sync_in.new.nodes.items) c.in-Nothing.is c.in_ok-outcome.ensures.ok)
    c.in_ok-fail-in-Nothing.ensures.ok c.in_ok-fail-in-Nothing.ensures.says
