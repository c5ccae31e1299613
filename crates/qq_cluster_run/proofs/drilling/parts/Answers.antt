use Rattle.std.proofs.Common.{◌≡◌, ◌∙◌, ◌++◌, ◌∷◌, [], List, ap}
use Rattle.qq_cluster_run.specs.declared.drilling.Part.{Part}
use Rattle.qq_cluster_run.specs.declared.drilling.Part.TheVariants.{Restart, Resend}
use Rattle.qq_cluster_run.specs.Drilling.{elects, parts, steps}
use Rattle.qq_cluster_run.proofs.drilling.parts.Goals as goal

-- one list more was added
added : (new old first more : List Part) → new ≡ old ++ more → old ≡ first → new ≡ first ++ more
added new old first more is same = is ∙ ap (λ (l : List Part). l ++ more) same

pub returns-clause-ok : goal.returns-clause-ok
unfolding parts
returns-clause-ok c =
    added _ _ _ (Resend ∷ []) c.in_ok-push_part-2.ensures.ok
    (added _ _ _ (elects c.args.nodes 4) c.in_ok-push_elections-4.ensures.ok
    (added _ _ _ (elects c.args.nodes 3) c.in_ok-push_elections-3.ensures.ok
    (added _ _ _ (elects c.args.nodes 2) c.in_ok-push_elections-2.ensures.ok
    (added _ _ _ (elects c.args.nodes 1) c.in_ok-push_elections.ensures.ok
    (added _ _ _ (Restart ∷ []) c.in_ok-push_part.ensures.ok
    (added _ _ [] steps c.in_ok-push_steps.ensures.ok c.new-out.ensures.items))))))
