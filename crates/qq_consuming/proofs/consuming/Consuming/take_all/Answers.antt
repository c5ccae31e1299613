use Rattle.std.proofs.Common.{◌≡◌, ◌+◌, ◌-◌, ℕ, suc, length, Option, ◌++◌, sym, ap, subst, ◌∙◌, arith}
use Rattle.qq_consuming.specs.Arrivals.{after_deeds, handed}
use Rattle.qq_consuming.specs.Consuming.{Received, hand_out_by}
use Rattle.qq_entry.specs.declared.answer.Delivery.{Delivery}
use Rattle.qq_consuming.proofs.HandingLemmas.{Handing, asks, handed-waited, handing-ends, handing-more, handing-none, handing-stops}
use Rattle.qq_consuming.proofs.consuming.Consuming.take_all.Goals as goal

pub asks-init : goal.asks-init
asks-init c =
    record {
      handing = handing-none c.waiting_count-count.result (c.waiting_count-count.result - 0) c.args.self.now
          c.args.out.now.items (omega arith);
      room = c.requires;
    }

pub push_reserved-requires : goal.push_reserved-requires
push_reserved-requires c =
    let waited = handed-waited c.asks.self c.in-Some.delivery (sym c.in-Some.ensures.value) in
    let room = c.asks.invariant.room in
    omega (arith, waited, room)

pub asks-preserved : goal.asks-preserved
asks-preserved c =
    let count : ℕ = c.waiting_count-count.result in
    let step : count - c.asks.asked ≡ suc (count - (c.asks.asked + 1)) = omega arith in
    let waited = handed-waited c.asks.self c.in-Some.delivery (sym c.in-Some.ensures.value) in
    let same = ap (λ (r : Received). length r.waiting) c.next.ensures.after in
    let room = c.asks.invariant.room in
    let long = c.push_reserved.ensures.len in
    let holds = c.push_reserved.ensures.capacity in
    record {
      handing = handing-more (count - (c.asks.asked + 1)) count c.args.self.now c.asks.self c.next.new.self
          c.args.out.now.items c.asks.out.items c.push_reserved.new.self.items c.in-Some.delivery
          (subst (λ (n : ℕ). Handing n count c.args.self.now c.asks.self c.args.out.now.items c.asks.out.items) step
          c.asks.invariant.handing) (sym c.in-Some.ensures.value) c.next.ensures.after c.push_reserved.ensures.items;
      room = omega (arith, waited, same, room, long, holds);
    }

pub returns-in_default-clause-after : goal.returns-in_default-clause-after
returns-in_default-clause-after c =
    c.next.ensures.after ∙ ap (λ (o : Option Delivery). hand_out_by o c.asks.self) (sym c.in_default.ensures.value)
    ∙ (handing-stops (c.waiting_count-count.result - c.asks.asked) c.waiting_count-count.result c.args.self.now c.asks.self
    c.args.out.now.items c.asks.out.items c.asks.invariant.handing (sym c.in_default.ensures.value)).0
    ∙ ap (λ (n : ℕ). after_deeds (asks n) c.args.self.now) c.waiting_count-count.ensures.count

pub returns-in_default-clause-taken : goal.returns-in_default-clause-taken
returns-in_default-clause-taken c =
    (handing-stops (c.waiting_count-count.result - c.asks.asked) c.waiting_count-count.result c.args.self.now c.asks.self
    c.args.out.now.items c.asks.out.items c.asks.invariant.handing (sym c.in_default.ensures.value)).1
    ∙ ap (λ (n : ℕ). c.args.out.now.items ++ handed c.args.self.now (asks n)) c.waiting_count-count.ensures.count

pub returns-clause-after : goal.returns-clause-after
returns-clause-after c =
    (handing-ends (c.waiting_count-count.result - c.asks.asked) c.waiting_count-count.result c.args.self.now c.asks.self
    c.args.out.now.items c.asks.out.items c.asks.invariant.handing (omega arith)).0
    ∙ ap (λ (n : ℕ). after_deeds (asks n) c.args.self.now) c.waiting_count-count.ensures.count

pub returns-clause-taken : goal.returns-clause-taken
returns-clause-taken c =
    (handing-ends (c.waiting_count-count.result - c.asks.asked) c.waiting_count-count.result c.args.self.now c.asks.self
    c.args.out.now.items c.asks.out.items c.asks.invariant.handing (omega arith)).1
    ∙ ap (λ (n : ℕ). c.args.out.now.items ++ handed c.args.self.now (asks n)) c.waiting_count-count.ensures.count
