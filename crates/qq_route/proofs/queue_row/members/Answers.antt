use Rattle.std.proofs.Common.{◌≡◌, ◌∙◌, ◌++◌, ◌∷◌, [], sym, ap, rules, arith}
use Rattle.std.proofs.lemmas.List.FromFn.{map-range_with_len_more}
use Rattle.qq_route.specs.Members.{member}
use Rattle.qq_route.proofs.queue_row.members.Goals as goal

pub loop-k-preserved : goal.loop-k-preserved
loop-k-preserved c =
    let f = member c.args.nodes c.args.before in
    let push : c.push.new.self.items ≡ c.loop-k.list.items ++ f c.loop-k.k ∷ [] = search rules in
    push ∙ ap (λ list. list ++ f c.loop-k.k ∷ []) c.loop-k.invariant
    ∙ sym (map-range_with_len_more f 0 c.loop-k.k c.loop-k.k (omega arith))
