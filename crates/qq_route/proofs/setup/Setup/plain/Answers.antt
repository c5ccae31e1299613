use Rattle.std.proofs.Common.{◌≡◌, ◌∙◌, ◌+◌, ◌++◌, ◌∷◌, [], sym, ap, fold, List, rules, arith}
use Rattle.std.proofs.lemmas.List.FromFn.{map-range_with_len_more}
use Rattle.std.proofs.lemmas.List.Sums.{fold_push}
use Rattle.qq_route.specs.Routes.{new_table}
use Rattle.qq_route.specs.View.{table_of}
use Rattle.qq_route.specs.declared.queue_row.QueueRow.{QueueRow}
use Rattle.qq_route.specs.Setup.{declare, plain_row, plain_rows}
use Rattle.qq_route.proofs.setup.Setup.plain.Goals as goal

pub loop-before-preserved : goal.loop-before-preserved
loop-before-preserved c =
    let n = c.loop-before.before in
    let f = plain_row c.args.nodes c.args.group in
    let rows : List QueueRow = plain_rows c.args.nodes c.args.group n in
    let more : plain_rows c.args.nodes c.args.group (n + 1) ≡ rows ++ f n ∷ [] = map-range_with_len_more f 0 n n
    (omega arith) in
    let row : c.in_ok-row.row ≡ f n = search rules in
    let push : c.push.new.self ≡ c.loop-before.rows ++ c.in_ok-row.row ∷ [] = search rules in
    let added : table_of c.add_queue.new.self ≡ declare (table_of c.loop-before.routes) c.in_ok-row.row = search
    rules in
    record {
      rows =
          push ∙ ap (λ list. list ++ c.in_ok-row.row ∷ []) c.loop-before.invariant.rows
          ∙ ap (λ r. rows ++ r ∷ []) row ∙ sym more;
      table =
          added ∙ ap (λ t. declare t c.in_ok-row.row) c.loop-before.invariant.table
          ∙ ap (declare (fold declare new_table rows)) row
          ∙ sym (fold_push declare new_table rows (f n)) ∙ ap (fold declare new_table) (sym more);
    }
