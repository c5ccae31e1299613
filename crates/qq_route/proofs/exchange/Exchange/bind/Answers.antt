use Rattle.std.proofs.Common.{◌≡◌, ◌++◌, ◌∷◌, [], List, ℕ, rules}
use Rattle.qq_route.specs.Index.{index_of, with_queue}
use Rattle.qq_route.proofs.Bindings.{one_more}
use Rattle.qq_route.specs.declared.exchange.Binding.{Binding}
use Rattle.qq_route.proofs.exchange.Exchange.bind.Goals as goal

pub invariant_of-self-2 : goal.invariant_of-self-2
invariant_of-self-2 c =
    let b : Binding = record { queue = c.args.queue; key = c.args.key.now } in
    let old = c.self.inside.bindings.items in
    let more : c.push.new.self.items ≡ old ++ b ∷ [] = search rules in
    let index : (key : List ℕ) → index_of c.add_under.new.index key ≡ with_queue (index_of c.self.inside.by_key)
    b.key b.queue key = search rules in
    rw more (one_more (index_of c.self.inside.by_key) (index_of c.add_under.new.index) old b c.self.invariant index)
