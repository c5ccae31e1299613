use Rattle.std.proofs.Common.{◌≡◌, ◌∷◌, ◌++◌, [], append-nil, List, sym, ap, subst, ◌∙◌, inr}
use Rattle.std.specs.Prelude.{is_some}
use Rattle.std.specs.List.{AllByRecursion}
use Rattle.qq_base.proofs.Exits.{at_exit}
use Rattle.qq_base.proofs.Fronts.{front-trans}
use Rattle.qq_entry.specs.declared.command.Command.{Command}
use Rattle.qq_session.specs.declared.shown.Shown.{Shown}
use Rattle.qq_session.specs.Shown.{said_of}
use Rattle.qq_queue.specs.ClusterQueue.{HasRefused}
use Rattle.qq_queue.specs.Range.{HasBytes}
use Rattle.qq_queue.specs.declared.cluster_queue.ClusterQueue.{ClusterQueue}
use Rattle.qq_queue.proofs.Offering.{Resending, nil-of, resend-does, resending-more, resending-all, resending-refused, said-none, said-then}
use Rattle.qq_queue.proofs.Showing.{shown-front}
use Rattle.qq_queue.proofs.cluster_queue.ClusterQueue.resend.Goals as goal

pub offer-requires-clause-bytes : goal.offer-requires-clause-bytes
offer-requires-clause-bytes c =
    (subst (AllByRecursion HasBytes) c.in-Some.ensures.items c.commands.invariant.bytes).0

pub commands-preserved : goal.commands-preserved
commands-preserved c =
    let first : ClusterQueue = c.args.self.now in
    let given : List Command = c.from_vec-rest.result.items in
    let rest : List Command = c.pop_front.new.self.items in
    let ready = is_some c.leader-leader.result in
    let shown : List Shown = said_of ready c.args.session (c.in-Some.command ∷ []) in
    let here : c.in-Some.command ∷ rest ≡ c.commands.rest.items = sym c.in-Some.ensures.items in
    let said = c.in_ok-offer.ensures.said in
    record {
      sound = c.offer.ensures.sound;
      so = resending-more c.leader-leader.result given rest c.in-Some.command first c.commands.self c.offer.new.self
          (subst (λ (l : List Command). Resending c.leader-leader.result given l first c.commands.self) (sym here)
          c.commands.invariant.so) c.in_ok-offer.ensures.ok c.offer.ensures.rest;
      said = ap (λ (l : List Shown). l ++ said_of ready c.args.session rest) said
          ∙ said-then ready c.args.session c.in-Some.command rest c.commands.shown.items
          ∙ ap (λ (l : List Command). c.commands.shown.items ++ said_of ready c.args.session l) here
          ∙ c.commands.invariant.said;
      same = record {
        name_is = c.offer.ensures.same.name_is ∙ c.commands.invariant.same.name_is;
        args_is = c.offer.ensures.same.args_is ∙ c.commands.invariant.same.args_is;
        nodes_is = c.offer.ensures.same.nodes_is ∙ c.commands.invariant.same.nodes_is;
      };
      bytes = (subst (AllByRecursion HasBytes) (sym here) c.commands.invariant.bytes).1;
      front = front-trans c.commands.invariant.front
          (shown-front shown c.commands.shown.items c.offer.new.shown.items said);
    }

pub returns-clause-ok : goal.returns-clause-ok
returns-clause-ok c = λ sessions q st.
    let first : ClusterQueue = c.args.self.now in
    let given : List Command = c.from_vec-rest.result.items in
    let ready = is_some c.leader-leader.result in
    let none : c.commands.rest.items ≡ [] = nil-of c.commands.rest.items
    (c.in_default.ensures.items ∙ c.in_default.ensures.rest) in
    let so = c.commands.invariant.so in
    resend-does sessions first c.commands.self q c.args.session given c.leader-leader.result c.args.shown.now.items
    c.commands.shown.items st (c.from_vec-rest.ensures.items ∙ c.in_ok-commands.ensures.ok) c.leader-leader.ensures
    (resending-all c.leader-leader.result given c.commands.rest.items first c.commands.self so none)
    (ap (λ (d : ClusterQueue). d.args) so.only) (ap (λ (d : ClusterQueue). d.synced) so.only)
    (ap (λ (d : ClusterQueue). d.publishers) so.only) (ap (λ (d : ClusterQueue). d.consumers) so.only)
    (ap (λ (d : ClusterQueue). d.seats) so.only) (ap (λ (d : ClusterQueue). d.untold) so.only)
    (sym (append-nil c.commands.shown.items)
    ∙ ap (λ (l : List Shown). c.commands.shown.items ++ l) (sym (said-none ready c.args.session))
    ∙ ap (λ (l : List Command). c.commands.shown.items ++ said_of ready c.args.session l) (sym none)
    ∙ c.commands.invariant.said)

pub returns-in_err-offer-clause-cause : goal.returns-in_err-offer-clause-cause
returns-in_err-offer-clause-cause c =
    let first : ClusterQueue = c.args.self.now in
    let given : List Command = c.from_vec-rest.result.items in
    let here : c.in-Some.command ∷ c.pop_front.new.self.items ≡ c.commands.rest.items =
    sym c.in-Some.ensures.items in
    at_exit _ _ c.from_residual-in_err-offer.ensures.1
    (inr (subst (λ (l : List Command). HasRefused l first c.in_err-offer.field-0.0)
    (c.from_vec-rest.ensures.items ∙ c.in_ok-commands.ensures.ok)
    (resending-refused c.leader-leader.result given c.pop_front.new.self.items c.in-Some.command first c.commands.self
    c.in_err-offer.field-0.0
    (subst (λ (l : List Command). Resending c.leader-leader.result given l first c.commands.self) (sym here)
    c.commands.invariant.so) c.leader-leader.ensures c.commands.invariant.sound c.in_err-offer.ensures.cause)))
