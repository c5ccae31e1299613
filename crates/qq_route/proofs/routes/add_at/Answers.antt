use Rattle.std.proofs.Common.{◌≡◌, ℕ, List, None, arith, rules}
use Rattle.std.specs.BTreeMap.{get_by_text}
use Rattle.std.proofs.lemmas.Map.Text.{text_keys}
use Rattle.qq_route.specs.Routes.{Exchanges, put, new_exchange}
use Rattle.qq_route.proofs.Puts.{added}
use Rattle.qq_route.proofs.routes.add_at.Goals as goal

pub returns-clause-ok : goal.returns-clause-ok
returns-clause-ok c =
    let old : Exchanges = get_by_text c.args.exchanges.now in
    let new : Exchanges = get_by_text c.insert.new.self in
    let none : old c.args.name.now ≡ None = search rules in
    let is : (other : List ℕ) → new other ≡ put old c.args.name.now (new_exchange c.args.kind)
    other = λ other. grind (arith, text_keys) in
    added old new c.args.name.now c.args.kind none is
