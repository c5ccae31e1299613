use Rattle.std.proofs.Common.{◌≡◌, ◌∙◌, ap, false, nat_cmp, rules}
use Rattle.std.specs.BTreeMap.{get_by_text, is_at}
use Rattle.std.specs.Set.{remove_key}
use Rattle.qq_route.proofs.Sets.{has, put_back}
use Rattle.qq_route.proofs.routes.Routes.add_queue.Goals as goal

pub returns-then-is_new-clause-err : goal.returns-then-is_new-clause-err
returns-then-is_new-clause-err c =
    let old = c.args.self.now.queues.keys in
    let none : has c.args.queue.0 old ≡ false = search rules in
    let back : c.remove.new.self.keys ≡ old = c.remove.ensures.keys
    ∙ ap (remove_key (is_at (nat_cmp c.args.queue.0))) c.in_ok-is_new.ensures.keys
    ∙ put_back c.args.queue.0 old none in
    let same : get_by_text c.bind_at.new.exchanges ≡ get_by_text c.args.self.now.exchanges = search rules in
    λ i. record { queues = back i; exchanges = same i }
