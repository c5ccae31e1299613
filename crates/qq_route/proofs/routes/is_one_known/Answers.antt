use Rattle.std.proofs.Common.{◌≡◌, ◌∙◌, sym, true, get_or}
use Rattle.std.proofs.lemmas.Bool.{OnTrue_from}
use Rattle.qq_route.proofs.Sets.{has, one_listed}
use Rattle.qq_route.proofs.routes.is_one_known.Goals as goal

pub returns : goal.returns
returns c =
    let known = c.args.known.now.keys in
    let queues = c.args.queues.now in
    OnTrue_from c.contains.result _
    (λ is.
    let there : has (get_or queues 0 (record { 0 = 0 })).0 known ≡ true = sym c.contains.ensures ∙ is in
    one_listed known queues c.in-len1.len_at_least c.in-len1.len_below c.len.ensures.ordered there)
