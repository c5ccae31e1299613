use Rattle.std.proofs.Common.{List, Option, [], ◌++◌, map, sym, ap, ◌∙◌}
use Rattle.std.specs.Option.{option_map_or}
use Rattle.qq_base.specs.declared.ids.Index.{Index}
use Rattle.qq_parts.specs.Parts.{Served}
use Rattle.qq_ledger.specs.Low.{item_index}
use Rattle.qq_ledger.proofs.Pushing.{out-rows}
use Rattle.qq_ledger.proofs.scans.push_consumer.Goals as goal

pub returns-in_ok-push_out-in-Some-clause-ok : goal.returns-in_ok-push_out-in-Some-clause-ok
returns-in_ok-push_out-in-Some-clause-ok c =
    c.in_ok-push_out-in-Some.ensures.ok
    ∙ ap (λ (xs : List Index). c.args.indices.now.items ++ xs)
    (sym (ap (λ (o : Option Served). option_map_or (λ (one : Served). map item_index one.out) o []) (sym c.in-Some.ensures)
    ∙ out-rows c.in-Some.row.now.consumer.id c.in-Some.row.now.out.items))
