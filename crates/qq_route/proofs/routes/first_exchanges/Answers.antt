use Rattle.std.proofs.Common.{◌≡◌, ◌∙◌, ap, ℕ, List, None, rules, codes, []}
use Rattle.std.specs.BTreeMap.{get_by_text}
use Rattle.qq_route.specs.declared.exchange.ExchangeKind.TheVariants.{Direct, Fanout, Topic}
use Rattle.qq_route.specs.Routes.{Exchanges, add_at}
use Rattle.qq_route.proofs.routes.first_exchanges.Goals as goal

pub returns-clause-ok : goal.returns-clause-ok
returns-clause-ok c =
    let none : Exchanges = λ name. None in
    let empty : (name : List ℕ) → get_by_text c.new-exchanges.result name ≡ None = λ name. search rules in
    let direct : get_by_text c.add_at.new.exchanges ≡ add_at none [] Direct =
    c.in_ok-add_at.ensures.ok ∙ ap (λ e. add_at e [] Direct) (λ i name. empty name i) in
    c.in_ok-add_at-4.ensures.ok
    ∙ ap (λ e. add_at e (codes "amq.topic") Topic) (c.in_ok-add_at-3.ensures.ok
    ∙ ap (λ e. add_at e (codes "amq.fanout") Fanout)
    (c.in_ok-add_at-2.ensures.ok ∙ ap (λ e. add_at e (codes "amq.direct") Direct) direct))
