use Rattle.std.proofs.Common.{◌+◌, List, Option, drop, fold, sym, ap, ◌∙◌}
use Rattle.std.specs.Prelude.{nat_lt}
use Rattle.qq_entry.specs.declared.table.Standing.{Standing}
use Rattle.qq_model.specs.Choice.{lesser}
use Rattle.qq_service.specs.Next.{servable_turn}
use Rattle.qq_service.proofs.NextLemmas.{drop-at}
use Rattle.qq_service.proofs.longest_servable.Goals as goal

pub consumers-preserved : goal.consumers-preserved
consumers-preserved g c =
    let xs : List Standing = g.T.Table.standings c.args.consumers.now in
    ap (λ (o : Option Standing). fold (lesser nat_lt servable_turn) o (drop (c.consumers.place + 1) xs))
    c.lesser-best.ensures
    ∙ sym (ap (fold (lesser nat_lt servable_turn) c.consumers.best)
    (drop-at xs c.consumers.place c.standing.result c.standing.ensures))
    ∙ c.consumers.invariant
