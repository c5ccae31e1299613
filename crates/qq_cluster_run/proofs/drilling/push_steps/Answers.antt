use Rattle.std.proofs.Common.{◌≡◌, ◌+◌, ◌∙◌, ◌++◌, ◌∷◌, [], List, map, sym, ap, append_assoc, rules, arith}
use Rattle.std.specs.List.{range_with_len}
use Rattle.std.proofs.lemmas.List.FromFn.{map-range_with_len_more}
use Rattle.qq_cluster_run.specs.declared.drilling.Part.{Part}
use Rattle.qq_cluster_run.specs.declared.drilling.Part.TheVariants.{Step}
use Rattle.qq_cluster_run.specs.declared.drilling.TheConstants.{STEPS}
use Rattle.qq_cluster_run.specs.Drilling.{steps}
use Rattle.qq_cluster_run.proofs.drilling.push_steps.Goals as goal

pub loop-before-preserved : goal.loop-before-preserved
loop-before-preserved c =
    let step : Part = Step (c.loop-before.before + 1) in
    let before : List Part = map Step (range_with_len 1 c.loop-before.before) in
    let push : c.push.new.self.items ≡ c.loop-before.out.items ++ step ∷ [] = search rules in
    push ∙ ap (λ (list : List Part). list ++ step ∷ []) c.loop-before.invariant
    ∙ append_assoc c.args.out.now.items before (step ∷ [])
    ∙ ap (λ (list : List Part). c.args.out.now.items ++ list)
    (sym (map-range_with_len_more Step 1 c.loop-before.before (c.loop-before.before + 1) (omega arith)))

pub returns-clause-ok : goal.returns-clause-ok
unfolding steps
returns-clause-ok c =
    let same : c.loop-before.before ≡ STEPS = omega arith in
    c.loop-before.invariant
    ∙ ap (λ n. c.args.out.now.items ++ map Step (range_with_len 1 n)) same
