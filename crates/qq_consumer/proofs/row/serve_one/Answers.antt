use Rattle.std.proofs.Common.{◌<◌, List, [], ◌∷◌, sym, subst, arith}
use Rattle.qq_base.proofs.Lists.{AllByRecursion-append, AllByRecursion-weaker}
use Rattle.qq_entry.specs.declared.message.ReadyRow.{ReadyRow}
use Rattle.qq_consumer.specs.Numbers.{Rises, AreBelow}
use Rattle.qq_consumer.specs.declared.rising.Numbered.{Numbered}
use Rattle.qq_consumer.proofs.Places.{rises-push}
use Rattle.qq_consumer.proofs.row.serve_one.Goals as goal

pub returns-clause-given : goal.returns-clause-given
returns-clause-given c =
    let next = c.args.row.now.consumer.next_id in
    let items : List (Numbered ReadyRow) = c.args.row.now.out.items in
    let one : Numbered ReadyRow = record { number = next; item = c.args.message } in
    let less : next < c.serve-row.result.next_id = omega (arith, c.serve-row.ensures.next) in
    record {
      rising =
          subst (λ (xs : List (Numbered ReadyRow)). Rises xs) (sym c.in_ok-push.ensures.items)
          (rises-push items one c.requires.given.rising c.requires.given.below);
      below =
          subst (λ (xs : List (Numbered ReadyRow)). AreBelow c.serve-row.result.next_id xs) (sym c.in_ok-push.ensures.items)
          (AllByRecursion-append (λ (x : Numbered ReadyRow). x.number < c.serve-row.result.next_id) items (one ∷ [])
          (AllByRecursion-weaker (λ (x : Numbered ReadyRow). x.number < next)
          (λ (x : Numbered ReadyRow). x.number < c.serve-row.result.next_id) (λ x below. omega arith) items
          c.requires.given.below) (less, tt));
      first = omega (arith, c.serve-row.ensures.next);
    }
