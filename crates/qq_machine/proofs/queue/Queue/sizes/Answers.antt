use Rattle.std.proofs.Common.{subst}
use Rattle.qq_ready.specs.Queue.{ReadyState, IsInOrder}
use Rattle.qq_dead.specs.Letters.{DeadState, AreNumbered}
use Rattle.qq_machine.proofs.Whole.{whole}
use Rattle.qq_machine.proofs.queue.Queue.sizes.Goals as goal

pub returns : goal.returns
returns c args =
    whole args c.args.self.now (subst (λ (r : ReadyState). IsInOrder r.queue) c.store-ready.ensures c.counters.ensures.order)
    (subst (λ (d : DeadState). AreNumbered d.letters) c.store-dead.ensures c.counters-2.ensures.numbered)
    c.len-2.ensures.apart
    c.len-2.ensures.out
