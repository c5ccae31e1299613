use Rattle.std.proofs.Common.{ℕ, ◌+◌, nat_le, refl, sym, ap, ◌∙◌, inl, inr}
use Rattle.qq_base.specs.declared.memory.TheConstants.{NUMBER_END}
use Rattle.qq_ready.specs.Queue.{ReadyState}
use Rattle.qq_machine.proofs.queue.Queue.check_ends.Goals as goal

pub returns-then-far-clause-ok : goal.returns-then-far-clause-ok
returns-then-far-clause-ok c args = inl (sym (c.are_far-far.ensures args) ∙ c.if-far.true)

pub returns-then-not-within-clause-cause : goal.returns-then-not-within-clause-cause
returns-then-not-within-clause-cause c =
    (refl, λ args. sym (c.in-Ok.ensures.ok args) ∙ c.if-not-within.true)

pub returns-clause-ok : goal.returns-clause-ok
returns-clause-ok c args =
    let q = c.args.self.now.ready.store.queue in
    inr (
      sym (c.in-Ok.ensures.ok args) ∙ c.if-not-within.false,
      sym (c.are_few-few.ensures
          ∙ ap (λ (n : ℕ). nat_le (n + c.counters-orders.result.1) NUMBER_END) (c.counters-orders.ensures.orders ∙ ap (λ (r : ReadyState). r.queue.orders) c.store.ensures)
          ∙ ap (λ (n : ℕ). nat_le (q.orders + n) NUMBER_END) (c.counters-orders.ensures.returns ∙ ap (λ (r : ReadyState). r.queue.returns) c.store.ensures))
          ∙ c.if-not-few.false,
    )
