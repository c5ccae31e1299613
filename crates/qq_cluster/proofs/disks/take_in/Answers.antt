use Rattle.std.specs.Prelude.{slice_get, Some}
use Rattle.std.proofs.Common.{◌≡◌, subst}
use Rattle.qq_cluster.specs.Disks.{GivesDisk}
use Rattle.qq_cluster.proofs.Logged.{turns-back}
use Rattle.qq_cluster.proofs.disks.take_in.Goals as goal

pub take_at-requires-clause-own : goal.take_at-requires-clause-own
take_at-requires-clause-own g c node here =
    c.requires.own node (subst (λ nodes. slice_get nodes c.args.at ≡ Some node) c.deref_mut.ensures.value here)

pub returns : goal.returns
returns g c =
    turns-back (λ old new. GivesDisk old new c.take_at.result) c.args.at c.args.nodes.now.items c.deref_mut.result.now
    c.take_at.new.nodes c.args.nodes.now.len c.deref_mut.ensures.value c.deref_mut.ensures.len c.take_at.ensures
