use Rattle.std.proofs.Common.{List, ℕ, refl, sym, subst, arith}
use Rattle.qq_cluster_run.specs.Named.{IsClient, IsShort}
use Rattle.qq_cluster_run.specs.Serving.{setup_in}
use Rattle.qq_script_lines.specs.declared.line.ScriptLine.TheVariants.{Publish, Send}
use Rattle.qq_broker.specs.Nodes.{Meets}
use Rattle.qq_broker.proofs.Asked.{given-up-as, publishes, served-as}
use Rattle.qq_broker.proofs.Rows.{key-first, some-row}
use Rattle.qq_broker.proofs.asking.publish.Goals as goal

pub send-requires : goal.send-requires
send-requires g c =
    let run = c.requires.holds.1.0 in
    record {
      may = c.requires.may;
      holds = (c.requires.holds.0, (run, c.requires.holds.1.1));
      client = subst IsClient (sym c.client.ensures) (refl, (omega arith, omega arith));
      short = subst (λ (key : List ℕ). IsShort key c.args.body)
          (sym (key-first c.args.setup.now c.as_slice.result.now c.index-as_slice-0.result c.in_ok-key.key
          (some-row c.args.setup.now c.requires.holds.1.0 _ c.requires.holds.1.2.0) c.as_slice.ensures c.index-as_slice-0.is c.in_ok-key.ensures.ok run)) c.requires.holds.1.2.1;
    }

pub returns-clause-ok : goal.returns-clause-ok
returns-clause-ok g c =
    let disk = g.D.NodeDisk in
    let s = c.args.setup.now in λ given run h.
    served-as given disk.facts s (Send c.client.result c.new-exchange.result c.in_ok-key.key c.args.body)
    (Publish c.args.body) c.send.result
    c.send.new.nodes c.args.told.now c.send.new.told run
    (publishes (setup_in s run) c.client.result c.new-exchange.result c.in_ok-key.key c.args.body c.client.ensures
    c.new-exchange.ensures (key-first s c.as_slice.result.now c.index-as_slice-0.result c.in_ok-key.key (some-row c.args.setup.now c.requires.holds.1.0 _ c.requires.holds.1.2.0)
    c.as_slice.ensures c.index-as_slice-0.is c.in_ok-key.ensures.ok run)) (c.send.ensures.ok given run h)

pub returns-clause-cause : goal.returns-clause-cause
returns-clause-cause g c =
    let disk = g.D.NodeDisk in
    let s = c.args.setup.now in λ given run before after h.
    given-up-as (Send c.client.result c.new-exchange.result c.in_ok-key.key c.args.body) (Publish c.args.body) c.send.result
    (Meets given disk.facts before after) (setup_in s run) run.events
    (publishes (setup_in s run) c.client.result c.new-exchange.result c.in_ok-key.key c.args.body c.client.ensures
    c.new-exchange.ensures (key-first s c.as_slice.result.now c.index-as_slice-0.result c.in_ok-key.key (some-row c.args.setup.now c.requires.holds.1.0 _ c.requires.holds.1.2.0)
    c.as_slice.ensures c.index-as_slice-0.is c.in_ok-key.ensures.ok run)) (c.send.ensures.cause given run before after h)
