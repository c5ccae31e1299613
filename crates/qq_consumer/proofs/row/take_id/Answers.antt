use Rattle.std.proofs.Common.{◌≡◌, List, Option, None, Some, ◌++◌, map, refl, sym, ap, ◌∙◌}
use Rattle.std.specs.Option.{option_to_list}
use Rattle.qq_entry.specs.declared.message.ReadyRow.{ReadyRow}
use Rattle.qq_consumer.specs.Roster.{out_item}
use Rattle.qq_consumer.proofs.Cutting.{listed, taken-at}
use Rattle.qq_consumer.proofs.row.take_id.Goals as goal

listed-is : (o : Option ReadyRow) → option_to_list o ≡ listed o
listed-is None = refl
listed-is (Some row) = refl

pub returns-clause-rows : goal.returns-clause-rows
returns-clause-rows c consumer =
    c.in_ok-put_behind.ensures.rows
    ∙ ap (λ (rows : List ReadyRow). c.args.rows.now.items ++ rows)
    (listed-is c.in_ok-taken.taken ∙ ap listed c.in_ok-taken.ensures.value
    ∙ sym (taken-at consumer c.args.id c.args.out.now.items).items)

pub returns-clause-out : goal.returns-clause-out
returns-clause-out c consumer =
    ap (map (out_item consumer)) c.in_ok-taken.ensures.items ∙ sym (taken-at consumer c.args.id c.args.out.now.items).rest
