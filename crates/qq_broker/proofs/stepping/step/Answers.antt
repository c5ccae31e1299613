use Rattle.std.proofs.Common.{ap, refl, subst, ◌∙◌}
use Rattle.std.specs.Global.{Vec}
use Rattle.qq_cluster_model.specs.Outcome.{Outcome}
use Rattle.qq_broker.specs.Takers.{AsksFree, IsGoneCaused}
use Rattle.qq_broker.proofs.Stepped.{has-stepped}
use Rattle.qq_broker.proofs.stepping.step.Goals as goal

pub serve-served-requires-clause-may : goal.serve-served-requires-clause-may
serve-served-requires-clause-may g c = λ lifetimes outlive. c.requires.runs.1.1.may

pub serve-served-requires-clause-holds : goal.serve-served-requires-clause-holds
serve-served-requires-clause-holds g c = λ lifetimes outlive. (
  c.requires.runs.0,
  (c.requires.runs.1.0, c.requires.runs.1.1.holds, c.requires.runs.1.2),
)

pub returns-in-Ok-clause-ok : goal.returns-in-Ok-clause-ok
returns-in-Ok-clause-ok g c = λ given run so.
    (let disk = g.Y.Disk.NodeDisk in
    has-stepped given disk.facts run c.args.broker.now
    (record c.args.broker.now { nodes = c.serve-served.new.nodes; text = c.replace.new.dest }) c.args.line
    c.replace.result.items c.args.takers.now c.give_back.new.takers c.lend-told.result c.serve-served.new.told so refl refl
    c.lend-told.ensures (ap (λ (v : Vec _). v.items) c.replace.ensures.value ∙ c.give_back.ensures.text)
    c.give_back.ensures.takers (c.in-Ok.ensures.ok given run so.holds))

pub returns-in-Ok-clause-free : goal.returns-in-Ok-clause-free
returns-in-Ok-clause-free g c =
    subst (λ (o : Outcome). AsksFree c.args.line o.takers) c.lend-told.ensures c.in-Ok.ensures.free

pub returns-in-Err-clause-gone : goal.returns-in-Err-clause-gone
returns-in-Err-clause-gone g c =
    subst (λ (o : Outcome). IsGoneCaused c.in-Err.fault c.args.line o.takers) c.lend-told.ensures c.in-Err.ensures.gone

pub returns-in-Err-clause-same : goal.returns-in-Err-clause-same
returns-in-Err-clause-same g c = λ is.
    c.give_back.ensures.takers ∙ ap (λ (o : Outcome). o.takers) (c.in-Err.ensures.same is)
    ∙ ap (λ (o : Outcome). o.takers) c.lend-told.ensures

pub returns-in-Err-clause-cause : goal.returns-in-Err-clause-cause
returns-in-Err-clause-cause g c = λ given first run number so seen.
    c.in-Err.ensures.cause given first run number so.holds (ap (λ (o : Outcome). o.takers) c.lend-told.ensures ∙ seen)
