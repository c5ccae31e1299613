use Rattle.std.proofs.Common.{◌≡◌, List, ap, sym, ◌∙◌, rules}
use Rattle.qq_entry.specs.declared.answer.Answer.TheVariants as answer
use Rattle.qq_model.specs.declared.consumer.Consumer.{Consumer}
use Rattle.qq_model.specs.State.{State}
use Rattle.qq_model.specs.Changes.{Progress}
use Rattle.qq_model.specs.Commands.{reply, set_state, return_session, leave, down}
use Rattle.qq_serial.specs.Views.{progress_of}
use Rattle.qq_serial.proofs.queue.Draft.down.Goals as goal

-- first all consumers of the session give back, then they leave
pub returns-clause-ok : goal.returns-clause-ok
unfolding down
returns-clause-ok c =
    let leaves : Progress → _ = λ back. reply answer.Down (set_state (leave c.args.session back.state) back) in
    let same : c.deref-2.result.now ≡ c.args.self.now.queue.consumers.items = search rules in
    let copied = ap (λ (all : List Consumer). return_session c.args.session all
    (progress_of c.args.store.now c.args.self.now)) (sym same) in
    ap leaves (copied ∙ c.in_ok-return_session.ensures.ok)
    ∙ ap (λ (s : State). reply answer.Down
    (record { state = s; effects = c.return_session.new.self.effects.items }))
    (c.in_ok-leave.ensures.ok c.args.store.now)
