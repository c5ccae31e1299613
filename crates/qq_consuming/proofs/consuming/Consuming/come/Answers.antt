use Rattle.std.proofs.Common.{List, length, ◌++◌, ap, ◌∙◌, arith}
use Rattle.qq_consuming.specs.Arrivals.{after_deeds, handed}
use Rattle.qq_consuming.specs.Consuming.{Received}
use Rattle.qq_entry.specs.declared.answer.Delivery.{Delivery}
use Rattle.qq_consuming.proofs.HandingLemmas.{arrived-length, asks}
use Rattle.qq_consuming.proofs.consuming.Consuming.come.Goals as goal

pub take_all-requires : goal.take_all-requires
take_all-requires c =
    let room = c.in_default.ensures.ok in
    let count = c.waiting_count-room.ensures.count in
    let same = ap (λ (r : Received). length r.waiting) c.in_default-arrive.ensures.ok in
    let le = arrived-length c.args.delivery c.args.self.now in
    omega (arith, room, count, same, le)

pub returns-clause-ok : goal.returns-clause-ok
returns-clause-ok c =
    c.take_all.ensures.after
    ∙ ap (λ (r : Received). after_deeds (asks (length r.waiting)) r) c.in_default-arrive.ensures.ok

pub returns-clause-taken : goal.returns-clause-taken
returns-clause-taken c =
    c.take_all.ensures.taken
    ∙ ap (λ (l : List Delivery). l ++ handed c.arrive.new.self (asks (length c.arrive.new.self.waiting)))
    c.reserve.ensures.items
    ∙ ap (λ (r : Received). c.args.out.now.items ++ handed r (asks (length r.waiting)))
    c.in_default-arrive.ensures.ok
