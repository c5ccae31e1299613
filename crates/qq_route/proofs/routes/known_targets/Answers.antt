use Rattle.std.proofs.Common.{◌≡◌, ◌∙◌, ap, map, filter, rules}
use Rattle.std.proofs.lemmas.Result.{IfOk-weaker}
use Rattle.qq_route.specs.Destinations.{listed}
use Rattle.qq_route.specs.Routes.{is_named, queue_id, takes}
use Rattle.qq_route.specs.declared.exchange.Binding.{Binding}
use Rattle.qq_route.proofs.Sets.{same_filter}
use Rattle.qq_route.proofs.Bindings.{queue_of}
use Rattle.qq_route.proofs.routes.known_targets.Goals as goal

pub returns-clause-ok : goal.returns-clause-ok
returns-clause-ok c =
    let known = c.args.known.now.keys in
    let e = c.args.exchange.now in
    let key = c.args.key.now in
    let bound : c.as_slice-2.result.now ≡ map queue_of
    (filter (λ (b : Binding). takes e.kind b.key key) e.bindings) = search rules in
    let gathered : c.in_ok-targets.targets.keys ≡ filter (is_named c.as_slice-2.result.now) known = search rules in
    let same = gathered ∙ ap (λ qs. filter (is_named qs) known) bound ∙ same_filter e key known in
    IfOk-weaker c.queue_ids.result _ _ (λ queues is. is ∙ ap (map queue_id) same) c.queue_ids.ensures.ok

pub returns-then-is_one_known-clause-ok : goal.returns-then-is_one_known-clause-ok
returns-then-is_one_known-clause-ok c =
    let known = c.args.known.now.keys in
    let e = c.args.exchange.now in
    let key = c.args.key.now in
    let queues = listed c.in_ok-bound.bound in
    let bound : queues ≡ map queue_of (filter (λ (b : Binding). takes e.kind b.key key) e.bindings) = search rules in
    let own : queues ≡ map queue_id (filter (is_named queues) known) = search rules in
    own ∙ ap (map queue_id) (ap (λ qs. filter (is_named qs) known) bound ∙ same_filter e key known)
