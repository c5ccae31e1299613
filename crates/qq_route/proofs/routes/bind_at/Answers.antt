use Rattle.std.proofs.Common.{◌≡◌, ℕ, List, Some, arith, rules}
use Rattle.std.specs.BTreeMap.{get_by_text}
use Rattle.std.proofs.lemmas.Map.Text.{text_keys}
use Rattle.qq_route.specs.Routes.{Exchanges, put, with_binding}
use Rattle.qq_route.specs.declared.exchange.Binding.{Binding}
use Rattle.qq_route.proofs.Puts.{bound, unchanged}
use Rattle.qq_route.proofs.routes.bind_at.Goals as goal

pub returns-in-Ok-clause-ok : goal.returns-in-Ok-clause-ok
returns-in-Ok-clause-ok c =
    let old : Exchanges = get_by_text c.args.exchanges.now in
    let new : Exchanges = get_by_text (c.get_mut.follows.lender c.bind.new.self) in
    let b : Binding = record { queue = c.args.queue; key = c.args.key.now } in
    let some : old c.args.name.now ≡ Some c.in-Some.exchange.now = search rules in
    let more : c.bind.new.self ≡ with_binding c.in-Some.exchange.now b = search rules in
    let is : (other : List ℕ) → new other ≡ put old c.args.name.now c.bind.new.self other = λ other. grind
    (arith, text_keys) in
    bound old new c.args.name.now c.in-Some.exchange.now c.bind.new.self b some more is

pub returns-in-Err-clause-err : goal.returns-in-Err-clause-err
returns-in-Err-clause-err c =
    let old : Exchanges = get_by_text c.args.exchanges.now in
    let new : Exchanges = get_by_text (c.get_mut.follows.lender c.bind.new.self) in
    let some : old c.args.name.now ≡ Some c.in-Some.exchange.now = search rules in
    let same : c.bind.new.self ≡ c.in-Some.exchange.now = search rules in
    let is : (other : List ℕ) → new other ≡ put old c.args.name.now c.bind.new.self other = λ other. grind
    (arith, text_keys) in
    unchanged old new c.args.name.now c.in-Some.exchange.now c.bind.new.self some same is
