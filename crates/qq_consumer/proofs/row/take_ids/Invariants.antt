use Rattle.std.proofs.Common.{◌≡◌, ◌++◌, map, drop}
use Rattle.qq_consumer.specs.Roster.{out_item, row_of, cut_ids}
use Rattle.qq_consumer.specs.Joined.{IsGiven}
use Rattle.qq_consumer.proofs.row.take_ids.Given as goal

-- the ids from here on take out of what is left what is still to be taken out
abbrev pub invariant-ids : goal.invariant-ids
invariant-ids l =
    let all = cut_ids l.ids (map (out_item l.fn.row.consumer.id) l.fn.row.out.items) in
    let left = cut_ids (drop l.place l.ids) (map (out_item l.fn.row.consumer.id) l.row.out.items) in
    (l.row.consumer ≡ l.fn.row.consumer) ×
    (l.rows.items ++ map row_of left.items ≡ l.fn.rows.items ++ map row_of all.items)
    × (left.rest ≡ all.rest) × IsGiven l.row × (l.row.out.base ≡ l.fn.row.out.base)
