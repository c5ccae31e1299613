use Rattle.std.proofs.Common.{◌++◌, List, ℕ, ap, ◌∙◌, refl, arith}
use Rattle.qq_cluster_run.proofs.Audits.{row_audit}
use Rattle.qq_cluster_run.specs.Serving.{cluster_in, setup_in}
use Rattle.qq_broker.proofs.Audited.{audit-there, row-adds}
use Rattle.qq_broker.proofs.DrillAudits.{digests-end, digests-more, tallies-end, tallies-more}
use Rattle.qq_broker.proofs.drills.add_audits.Goals as goal

pub audit_text-requires : goal.audit_text-requires
audit_text-requires g c =
    let disk = g.D.NodeDisk in
    audit-there disk.facts c.args.setup.now c.args.nodes.now c.as_slice-rows.result.now c.loop-row.row-index
    c.row-item.result (c.as_slice-rows.ensures, c.loop-row-test.true, c.row-item.is)
    c.requires.holds.0 c.requires.holds.1.0 c.requires.holds.1.1

pub count_rows-requires : goal.count_rows-requires
count_rows-requires g c =
    let disk = g.D.NodeDisk in
    audit-there disk.facts c.args.setup.now c.args.nodes.now c.as_slice-rows.result.now c.loop-row.row-index
    c.row-item.result (c.as_slice-rows.ensures, c.loop-row-test.true, c.row-item.is)
    c.requires.holds.0 c.requires.holds.1.0 c.requires.holds.1.1

pub loop-row-preserved : goal.loop-row-preserved
loop-row-preserved g c =
    let disk = g.D.NodeDisk in
    let s = c.args.setup.now in
    let rows = c.as_slice-rows.result.now in
    let i = c.loop-row.row-index in
    let row = c.row-item.result in
    record {
      digests = digests-more disk.facts s c.args.nodes.now c.args.digest.now c.loop-row.digest c.update.new.self rows i
          row c.as_slice.result.now c.loop-row-test.true c.row-item.is
          c.loop-row.invariant.digests
          (λ given run h. c.as_slice.ensures.value
          ∙ row-adds disk.facts s c.args.nodes.now rows i row c.new-text.result.items c.audit_text.new.text.items
          c.requires.may (c.as_slice-rows.ensures, c.loop-row-test.true, c.row-item.is)
          (λ setup d st. c.in_ok-audit_text.ensures.ok setup d c.args.nodes.now refl st) given run h
          ∙ ap (λ (l : List ℕ). l ++ row_audit (cluster_in s run) row) c.new-text.ensures.items)
          c.update.ensures;
      tallies = tallies-more disk.facts s c.args.nodes.now c.args.tally.now c.loop-row.tally c.count_rows.new.tally rows
          i row c.loop-row-test.true c.row-item.is c.loop-row.invariant.tallies
          (λ given run h. c.in_ok-count_rows.ensures.ok (setup_in s run) (cluster_in s run) h.stands);
    }

pub returns-clause-digest : goal.returns-clause-digest
returns-clause-digest g c =
    let disk = g.D.NodeDisk in
    digests-end disk.facts c.args.setup.now c.args.nodes.now c.args.digest.now c.loop-row.digest
    c.as_slice-rows.result.now c.loop-row.row-index c.requires.may c.as_slice-rows.ensures
    (omega (arith, c.loop-row-test.false)) c.loop-row.invariant.digests

pub returns-clause-tally : goal.returns-clause-tally
returns-clause-tally g c =
    let disk = g.D.NodeDisk in
    tallies-end disk.facts c.args.setup.now c.args.nodes.now c.args.tally.now c.loop-row.tally
    c.as_slice-rows.result.now c.loop-row.row-index c.as_slice-rows.ensures (omega (arith, c.loop-row-test.false))
    c.loop-row.invariant.tallies
