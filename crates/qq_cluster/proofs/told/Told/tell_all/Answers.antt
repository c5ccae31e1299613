use Rattle.std.proofs.Common.{◌≡◌, ◌+◌, ◌∷◌, List, drop, sym, ap, ◌∙◌, arith}
use Rattle.std.proofs.lemmas.List.{drop_more}
use Rattle.qq_session.specs.declared.shown.Shown.{Shown}
use Rattle.qq_cluster.specs.Telling.{tell_all}
use Rattle.qq_cluster.proofs.told.Told.tell_all.Goals as goal

pub list-preserved : goal.list-preserved
list-preserved g c =
    let shown : Shown = c.shown-item.result in
    let rest : List Shown = drop (c.list.shown-index + 1) c.args.list.now in
    let here : shown ∷ rest ≡ drop c.list.shown-index c.args.list.now =
    ap (λ (x : Shown). x ∷ rest) c.shown-item.is
    ∙ sym (drop_more c.args.list.now c.list.shown-index shown (omega (arith, c.list-test.true))) in
    ap (tell_all c.args.first c.args.queue.0 c.args.name.now rest) c.in_ok-tell.ensures.ok
    ∙ ap (λ (l : List Shown). tell_all c.args.first c.args.queue.0 c.args.name.now l c.list.self) here
    ∙ c.list.invariant
