use Rattle.std.proofs.Common.{◌≡◌}
use Rattle.std.specs.Prelude.{not}
use Rattle.qq_cluster.proofs.Logged.{turns-back}
use Rattle.qq_opening.proofs.marking.mark_in.Goals as goal

pub returns : goal.returns
returns g c =
    turns-back (λ old new. new ≡ record old { up = c.args.up; empty = not c.args.up }) c.args.at c.args.nodes.now.items
    c.deref_mut.result.now c.mark_at.new.nodes c.args.nodes.now.len c.deref_mut.ensures.value c.deref_mut.ensures.len
    c.mark_at.ensures
