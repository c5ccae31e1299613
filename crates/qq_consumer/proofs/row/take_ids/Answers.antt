use Rattle.std.proofs.Common.{List, map, ◌∙◌}
use Rattle.qq_base.specs.declared.ids.ConsumerId.{ConsumerId}
use Rattle.qq_entry.specs.declared.message.ReadyRow.{ReadyRow}
use Rattle.qq_consumer.specs.declared.rising.Numbered.{Numbered}
use Rattle.qq_consumer.specs.Roster.{out_item}
use Rattle.qq_consumer.proofs.Cutting.{next-items, next-rest}
use Rattle.qq_consumer.proofs.JoinedRows.{given-still}
use Rattle.qq_consumer.proofs.row.take_ids.Goals as goal

pub returns-in_err-take_id-clause-given : goal.returns-in_err-take_id-clause-given
returns-in_err-take_id-clause-given c =
    given-still c.id_at-id.result c.ids.row.consumer c.ids.row.out.items c.take_id.new.out.items
    c.in_err-take_id.ensures.items c.ids.invariant.3

pub ids-preserved : goal.ids-preserved
ids-preserved c =
    let consumer : ConsumerId = c.args.row.now.consumer.id in
    let id = c.id_at-id.result in
    let items : List (Numbered ReadyRow) = c.ids.row.out.items in (
      c.ids.invariant.0,
      next-items c.args.ids.now c.ids.place id (map (out_item consumer) items)
          (map (out_item consumer) c.take_id.new.out.items) c.ids.rows.items c.take_id.new.rows.items _ c.id_at-id.ensures
          (c.in_ok-take_id.ensures.rows consumer) (c.in_ok-take_id.ensures.out consumer) c.ids.invariant.1,
      next-rest c.args.ids.now c.ids.place id (map (out_item consumer) items)
          (map (out_item consumer) c.take_id.new.out.items) _ c.id_at-id.ensures (c.in_ok-take_id.ensures.out consumer)
          c.ids.invariant.2,
      given-still id c.ids.row.consumer items c.take_id.new.out.items c.in_ok-take_id.ensures.items c.ids.invariant.3,
      c.in_ok-take_id.ensures.base ∙ c.ids.invariant.4,
    )
