use Rattle.std.proofs.Common.{◌≡◌, ◌++◌, List, Some, None, sym, ap, ◌∙◌, subst, append-nil}
use Rattle.std.specs.Map.{values_of}
use Rattle.std.proofs.lemmas.Result.{on_err_weaker, on_ok_weaker}
use Rattle.qq_consuming.specs.Consumers.{come, come_by, taken}
use Rattle.qq_consuming.specs.Consuming.{Received}
use Rattle.qq_consuming.specs.Known.{AreOwn}
use Rattle.qq_entry.specs.declared.answer.Delivery.{Delivery}
use Rattle.qq_consuming.proofs.ConsumersLemmas.{come-keeps}
use Rattle.qq_consuming.proofs.KnownLemmas.{come-written, either, own-after, same-written, taken-found, unchanged}
use Rattle.qq_consuming.proofs.consumers.Consumers.come.Goals as goal

pub returns-in_default-clause-ok : goal.returns-in_default-clause-ok
returns-in_default-clause-ok c =
    ap (λ (m : _). values_of m.entries) c.get_mut.follows.holds-at-none
    ∙ sym (unchanged c.args.id (come_by c.args.delivery) c.self.inside.rows.entries c.self.invariant
    (sym c.in_default.ensures.value))
    ∙ ap (come c.args.id c.args.delivery) c.self.view_is

pub returns-in_default-clause-taken : goal.returns-in_default-clause-taken
returns-in_default-clause-taken c =
    sym (append-nil c.args.out.now.items)
    ∙ ap (λ (l : List Delivery). c.args.out.now.items ++ l)
    (sym (taken-found c.args.id c.args.delivery c.self.inside.rows.entries None c.self.invariant
    (sym c.in_default.ensures.value)) ∙ ap (taken c.args.id c.args.delivery) c.self.view_is)

pub invariant_of-self : goal.invariant_of-self
invariant_of-self c = subst (λ (m : _). AreOwn m.entries) (sym c.get_mut.follows.holds-at-none) c.self.invariant

pub invariant_of-self-2 : goal.invariant_of-self-2
invariant_of-self-2 c =
    own-after c.args.id c.self.inside.rows.entries (c.get_mut.follows.lender c.come.new.self).entries
    c.in-Some.consumer.now c.come.new.self c.self.invariant (sym c.in-Some.ensures.value)
    (c.get_mut.follows.holds c.come.new.self).0
    (either c.come.result (c.come.new.self.consumer ≡ c.in-Some.consumer.now.consumer)
    (on_ok_weaker c.come.result
    (λ is. ap (λ (r : Received). r.consumer) is ∙ come-keeps c.args.delivery c.in-Some.consumer.now) c.come.ensures.ok)
    (on_err_weaker c.come.result (λ is. ap (λ (r : Received). r.consumer) is) c.come.ensures.err))

pub returns-clause-ok : goal.returns-clause-ok
returns-clause-ok c =
    on_ok_weaker c.come.result
    (λ is. come-written c.args.id c.args.delivery c.self.inside.rows.entries
    (c.get_mut.follows.lender c.come.new.self).entries c.in-Some.consumer.now c.come.new.self c.self.invariant
    (sym c.in-Some.ensures.value) (c.get_mut.follows.holds c.come.new.self).0 is
    ∙ ap (come c.args.id c.args.delivery) c.self.view_is) c.come.ensures.ok

pub returns-clause-taken : goal.returns-clause-taken
returns-clause-taken c =
    on_ok_weaker c.come.result
    (λ is. is ∙ ap (λ (l : List Delivery). c.args.out.now.items ++ l)
    (sym (taken-found c.args.id c.args.delivery c.self.inside.rows.entries (Some c.in-Some.consumer.now)
    c.self.invariant (sym c.in-Some.ensures.value)) ∙ ap (taken c.args.id c.args.delivery) c.self.view_is))
    c.come.ensures.taken

pub returns-clause-err : goal.returns-clause-err
returns-clause-err c =
    on_err_weaker c.come.result
    (λ is. same-written c.args.id c.self.inside.rows.entries (c.get_mut.follows.lender c.come.new.self).entries
    c.in-Some.consumer.now c.come.new.self c.self.invariant (sym c.in-Some.ensures.value)
    (c.get_mut.follows.holds c.come.new.self).0 is ∙ c.self.view_is) c.come.ensures.err
