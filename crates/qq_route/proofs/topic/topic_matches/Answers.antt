use Rattle.std.proofs.Common.{◌≡◌, sym, ◌∙◌, rules}
use Rattle.qq_route.specs.Topic.{words, do_match}
use Rattle.qq_route.proofs.Relation.{matched, do_match-true}
use Rattle.qq_route.proofs.topic.topic_matches.Goals as goal

pub returns-clause-relation : goal.returns-clause-relation
returns-clause-relation c =
    let ps = words c.args.pattern.now in
    let ws = words c.args.key.now in
    let is : c.matches.result ≡ do_match ps ws = search rules in
    (λ yes. matched ps ws (sym is ∙ yes), λ m. is ∙ do_match-true ps ws m)
