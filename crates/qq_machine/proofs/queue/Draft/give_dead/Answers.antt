use Rattle.std.proofs.Common.{List, Some, ap, sym, ◌∙◌}
use Rattle.qq_entry.specs.declared.audit.Effect.{Effect}
use Rattle.qq_dead.specs.Letters.{DeadState, next_offer}
use Rattle.qq_machine.specs.Views.{work_of}
use Rattle.qq_machine.proofs.Dead.{with_letters, nothing-offered, offered}
use Rattle.qq_machine.proofs.queue.Draft.give_dead.Goals as goal

pub returns-in_default-clause-ok : goal.returns-in_default-clause-ok
returns-in_default-clause-ok c = nothing-offered c.args.args.now c.args.self.now (sym (c.in_default.ensures ∙ ap (λ (d : DeadState). next_offer d.letters) c.store.ensures))

pub returns-clause-ok : goal.returns-clause-ok
returns-clause-ok c =
    offered c.args.args.now c.args.self.now c.in-Some.one.now c.give.new.self.store.letters c.in_ok-copy.field-0
    (sym (c.in-Some.ensures ∙ ap (λ (d : DeadState). next_offer d.letters) c.store.ensures))
    c.give.ensures.letters c.in_ok-copy.ensures.ok
    ∙ ap (λ (es : List Effect). Some (record (with_letters c.give.new.self.store.letters
    (work_of c.args.args.now c.args.self.now)) { effects = es })) (sym c.in_ok-push.ensures.items)
