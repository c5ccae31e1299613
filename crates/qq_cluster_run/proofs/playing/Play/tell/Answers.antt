use Rattle.std.proofs.Common.{◌≡◌, ◌+◌, ℕ, ap, ◌∙◌, rules}
use Rattle.qq_cluster_model.specs.Outcome.{deliveries_among}
use Rattle.qq_cluster_run.proofs.Plays.{told}
use Rattle.qq_cluster_run.proofs.playing.Play.tell.Goals as goal

pub returns-clause-ok : goal.returns-clause-ok
returns-clause-ok c = λ k so.
    (let before : ℕ = c.args.self.now.delivered in
    let delivered : c.in-Some.delivered ≡ before + c.in_ok-count.count = search rules in
    told c.args.self.now _ k (deliveries_among c.args.list.now) c.args.text.now so c.in_ok-count.ensures.ok
    (c.update.ensures k.text) (delivered ∙ ap (λ (n : ℕ). before + n) c.in_ok-count.ensures.count))
