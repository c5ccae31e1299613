use Rattle.std.proofs.Common.{◌≡◌, ◌<◌, length, IfOk, IfErr, OnOk, ap, subst, ◌∙◌}
use Rattle.std.proofs.lemmas.Result.{on_ok_weaker, on_err_weaker}
use Rattle.qq_base.specs.Ids.{client}
use Rattle.qq_base.specs.declared.memory.TheConstants.{NUMBER_END}
use Rattle.qq_entry.specs.declared.command.Command.{Command}
use Rattle.qq_model.specs.declared.TheConstants.{WINDOW}
use Rattle.qq_session.specs.declared.publishing.HandFault.{HandFault}
use Rattle.qq_session.specs.Publishing.{Numbers, next_command, hand, new_numbers, HasHandCause}
use Rattle.qq_queue.specs.Sessions.{numbers_of}
use Rattle.qq_queue.proofs.Known.{known-at, written-known, written-same}
use Rattle.qq_queue.proofs.publishers.Publishers.hand.Goals as goal

pub returns-clause-ok : goal.returns-clause-ok
returns-clause-ok c =
    subst (λ (x : Numbers). IfOk c.hand.result (λ (command : Command). command ≡ next_command c.args.body x))
    (known-at (λ k. new_numbers (client k) c.self.inside.queue) c.args.session c.self.inside.rows
    c.in-Some.publisher.now (numbers_of c.args.self.now)
    c.in-Some.ensures.value (ap numbers_of c.self.view_is ∙ c.open.ensures.same))
    c.hand.ensures.ok

pub returns-clause-handed : goal.returns-clause-handed
returns-clause-handed c =
    on_ok_weaker c.hand.result
    (written-known (λ k. new_numbers (client k) c.self.inside.queue) c.args.session c.self.inside.rows
    (c.get_mut.follows.lender c.hand.new.self)
    c.in-Some.publisher.now c.hand.new.self (numbers_of c.args.self.now) (hand c.args.body)
    c.in-Some.ensures.value
    (ap numbers_of c.self.view_is ∙ c.open.ensures.same) (c.get_mut.follows.holds c.hand.new.self))
    c.hand.ensures.handed

pub returns-clause-room : goal.returns-clause-room
returns-clause-room c =
    subst (λ (x : Numbers). OnOk c.hand.result (length x.opened < WINDOW))
    (known-at (λ k. new_numbers (client k) c.self.inside.queue) c.args.session c.self.inside.rows
    c.in-Some.publisher.now (numbers_of c.args.self.now)
    c.in-Some.ensures.value (ap numbers_of c.self.view_is ∙ c.open.ensures.same))
    c.hand.ensures.room

pub returns-clause-within : goal.returns-clause-within
returns-clause-within c =
    subst (λ (x : Numbers). OnOk c.hand.result (x.next < NUMBER_END))
    (known-at (λ k. new_numbers (client k) c.self.inside.queue) c.args.session c.self.inside.rows
    c.in-Some.publisher.now (numbers_of c.args.self.now)
    c.in-Some.ensures.value (ap numbers_of c.self.view_is ∙ c.open.ensures.same))
    c.hand.ensures.within

pub returns-clause-err : goal.returns-clause-err
returns-clause-err c =
    on_err_weaker c.hand.result
    (written-same (λ k. new_numbers (client k) c.self.inside.queue) c.args.session c.self.inside.rows
    (c.get_mut.follows.lender c.hand.new.self)
    c.in-Some.publisher.now c.hand.new.self (numbers_of c.args.self.now) c.in-Some.ensures.value
    (ap numbers_of c.self.view_is ∙ c.open.ensures.same) (c.get_mut.follows.holds c.hand.new.self))
    c.hand.ensures.err

pub returns-clause-cause : goal.returns-clause-cause
returns-clause-cause c =
    subst (λ (x : Numbers). IfErr c.hand.result (λ (fault : HandFault). HasHandCause fault x))
    (known-at (λ k. new_numbers (client k) c.self.inside.queue) c.args.session c.self.inside.rows
    c.in-Some.publisher.now (numbers_of c.args.self.now)
    c.in-Some.ensures.value (ap numbers_of c.self.view_is ∙ c.open.ensures.same))
    c.hand.ensures.cause
