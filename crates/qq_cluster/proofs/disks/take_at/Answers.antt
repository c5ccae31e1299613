use Rattle.std.proofs.lemmas.Option.{slice_get-get_or}
use Rattle.qq_cluster.specs.Disks.{GivesDisk}
use Rattle.qq_cluster.proofs.Logged.{node-turns}
use Rattle.qq_cluster.proofs.disks.take_at.Goals as goal

pub take_own-requires : goal.take_own-requires
take_own-requires g c =
    c.requires.own _ (slice_get-get_or c.args.nodes.now c.args.at _ c.requires.place)

pub returns : goal.returns
returns g c =
    node-turns (λ old new. GivesDisk old new c.take_own.result) c.args.at c.args.nodes.now _ c.take_own.new.node
    c.requires.place c.take_own.ensures
