use Rattle.std.proofs.Common.{◌≡◌, ℕ, ◌+◌, ◌++◌, ◌∷◌, [], ◌∙◌, sym, ap, subst, take, get_or, List, true, false, nat_cmp, filter, arith}
use Rattle.std.proofs.lemmas.Grind.{common_steps}
use Rattle.std.proofs.lemmas.List.Kept.{IsStrictlySortedBy-filter}
use Rattle.qq_base.specs.declared.ids.QueueId.{QueueId}
use Rattle.qq_route.specs.Routes.{is_named}
use Rattle.qq_route.proofs.Sets.{Gathers, has, gathers_known, gathers_unknown, same_sets, has-filter}
use Rattle.qq_route.proofs.routes.gather.Goals as goal
use Rattle.qq_route.proofs.routes.gather.Goals.{then-contains+in_ok-insert, else-contains}

pub loop-queue-preserved : goal.loop-queue-preserved
loop-queue-preserved c =
    let known = c.args.known.now.keys in
    let queues : List QueueId = c.args.queues.now in
    let i : ℕ = c.loop-queue.queue-index in
    let more : QueueId = get_or queues i (record { 0 = 0 }) in
    let front : take (i + 1) queues ≡ take i queues ++ more ∷ [] = grind (arith, common_steps) in
    let P : List QueueId → Type 0 = λ qs. Gathers known c.if-contains.set.keys qs in
    subst P (sym front) (
    elim c.if-contains.branch [
      | then-contains+in_ok-insert w ↦
          let is : has more.0 known ≡ true = sym c.contains.ensures ∙ w.if-contains.true in
          let G : List ℕ → Type 0 = λ set. Gathers known set (take i queues ++ more ∷ []) in
          subst G (ap (λ set. set.keys) (sym w.set-is))
          (gathers_known known c.loop-queue.set.keys w.insert.new.self.keys (take i queues) more
          c.loop-queue.invariant is w.in_ok-insert.ensures.ordered w.in_ok-insert.ensures.updates.0)
      | else-contains w ↦
          let is : has more.0 known ≡ false = sym c.contains.ensures ∙ w.if-contains.false in
          let G : List ℕ → Type 0 = λ set. Gathers known set (take i queues ++ more ∷ []) in
          subst G (ap (λ set. set.keys) (sym w.set-is))
          (gathers_unknown known c.loop-queue.set.keys (take i queues) more c.loop-queue.invariant is)
    ]
    )

pub returns-clause-ok : goal.returns-clause-ok
returns-clause-ok c =
    let known = c.args.known.now.keys in
    let queues : List QueueId = c.args.queues.now in
    let p = is_named queues in
    let end : take c.loop-queue.queue-index queues ≡ queues = grind (arith, common_steps) in
    let P : List QueueId → Type 0 = λ qs. Gathers known c.loop-queue.set.keys qs in
    let all : Gathers known c.loop-queue.set.keys queues = subst P end c.loop-queue.invariant in
    same_sets c.loop-queue.set.keys (filter p known) all.rises
    (IsStrictlySortedBy-filter nat_cmp p known c.len.ensures.ordered) (λ q. all.each q ∙ sym (has-filter p q known))
