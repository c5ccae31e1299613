use Rattle.std.proofs.Common.{sym, ap, subst}
use Rattle.qq_consumer.specs.Numbers.{RisingList, Rises, AreBelow}
use Rattle.qq_consumer.proofs.Places.{rises-push}
use Rattle.qq_consumer.proofs.rising.Rising.push.Goals as goal

pub invariant_of-self-2 : goal.invariant_of-self-2
invariant_of-self-2 g c =
    let rows = c.self.inside.rows.items in
    record {
      now =
          subst (λ xs. Rises xs) (sym c.in_ok-push_back.ensures.items)
          (rises-push rows (record { number = c.args.number; item = c.args.item }) c.self.invariant.now
          (subst (λ xs. AreBelow c.args.number xs) (sym (ap (λ (r : RisingList _). r.items) c.self.view_is))
          c.requires.below));
      before = subst (λ xs. Rises xs) (sym c.in_ok-push_back.ensures.base) c.self.invariant.before;
    }
