use Rattle.std.proofs.Common.{◌≡◌, ◌∙◌, ◌-◌, List, [], get_or, sym, subst, arith}
use Rattle.qq_disk.specs.Disk.{Disk, now}
use Rattle.qq_wal.specs.Ranges.{ranges_in}
use Rattle.qq_recover.specs.declared.file.ChainFile.{ChainFile}
use Rattle.qq_recover.specs.Ends.{End, IsReadAgain}
use Rattle.qq_recover.specs.Reading.{shown}
use Rattle.qq_recover.specs.Replay.{replay_files}
use Rattle.qq_recover.specs.Table.{lanes_of}
use Rattle.qq_recover.proofs.Lying.{find-more}
use Rattle.qq_recover.proofs.Passing.{as-many, ends-at, passed-on, passed-refused, stands-at}
use Rattle.qq_recover.proofs.Quiet.{reads-then, still}
use Rattle.qq_recover.proofs.replay.replay_chain.Goals as goal

pub files-preserved : goal.files-preserved
files-preserved g c = record {
  within = omega (arith, c.files.invariant.within);
  lists = λ queues lists. c.replay_at.ensures.lists queues (c.files.invariant.lists queues lists);
  gives = λ told queues files lists are again.
      let facts = g.D.NodeDisk.facts in
      let inv = c.files.invariant in
      let d : ChainFile = record { number = 0; end = 0; records = [] } in
      let e : End = record { number = 0; end = 0 } in
      let file = get_or files (c.files.left - 1) d in
      let here = still facts c.args.disk.now c.files.disk inv.reads told in
      let many = as-many files c.args.chain.now are in
      let stands : IsReadAgain queues (shown (now (facts.past c.files.disk))) file =
      subst (λ (p : List Disk). IsReadAgain queues (shown (now p)) file) (sym (inv.reads.same told))
      (stands-at (IsReadAgain queues (shown (now (facts.past c.args.disk.now)))) files (c.files.left - 1) d again
      (omega (arith, many, inv.within))) in
      let ends = ends-at files c.args.chain.now (c.files.left - 1) d e are (omega (arith, inv.within)) in
      passed-on queues files c.files.left d (omega arith) (omega (arith, many, inv.within)) (lanes_of c.files.table)
      (replay_files queues files (lanes_of c.args.table.now)) (inv.gives told queues files lists are again)
      (lanes_of c.replay_at.new.table)
      (c.in_default.ensures.gives here queues file stands e ends (inv.lists queues lists));
  ranges = λ told queues files are again.
      let facts = g.D.NodeDisk.facts in
      let inv = c.files.invariant in
      let d : ChainFile = record { number = 0; end = 0; records = [] } in
      let e : End = record { number = 0; end = 0 } in
      let file = get_or files (c.files.left - 1) d in
      let here = still facts c.args.disk.now c.files.disk inv.reads told in
      let many = as-many files c.args.chain.now are in
      let stands : IsReadAgain queues (shown (now (facts.past c.files.disk))) file =
      subst (λ (p : List Disk). IsReadAgain queues (shown (now p)) file) (sym (inv.reads.same told))
      (stands-at (IsReadAgain queues (shown (now (facts.past c.args.disk.now)))) files (c.files.left - 1) d again
      (omega (arith, many, inv.within))) in
      let ends = ends-at files c.args.chain.now (c.files.left - 1) d e are (omega (arith, inv.within)) in
      find-more files c.files.left d (ranges_in c.args.ranges.now) (ranges_in c.files.ranges)
      (ranges_in c.replay_at.new.ranges) (omega arith) (omega (arith, many, inv.within))
      (inv.ranges told queues files are again) (c.in_default.ensures.ranges here queues file stands e ends);
  reads = reads-then g.D.NodeDisk.facts c.args.disk.now c.files.disk c.replay_at.new.disk c.files.invariant.reads
      c.replay_at.ensures.reads;
  later = omega (arith, c.files.invariant.later, c.replay_at.ensures.cause.later);
}

pub returns-in-Err-clause-gives : goal.returns-in-Err-clause-gives
returns-in-Err-clause-gives g c = λ told queues files are again lists.
    let facts = g.D.NodeDisk.facts in
    let inv = c.files.invariant in
    let d : ChainFile = record { number = 0; end = 0; records = [] } in
    let e : End = record { number = 0; end = 0 } in
    let file = get_or files (c.files.left - 1) d in
    let here = still facts c.args.disk.now c.files.disk inv.reads told in
    let many = as-many files c.args.chain.now are in
    let stands : IsReadAgain queues (shown (now (facts.past c.files.disk))) file =
    subst (λ (p : List Disk). IsReadAgain queues (shown (now p)) file) (sym (inv.reads.same told))
    (stands-at (IsReadAgain queues (shown (now (facts.past c.args.disk.now)))) files (c.files.left - 1) d again
    (omega (arith, many, inv.within))) in
    let ends = ends-at files c.args.chain.now (c.files.left - 1) d e are (omega (arith, inv.within)) in
    passed-refused queues files c.files.left d (omega arith) (omega (arith, many, inv.within)) (lanes_of c.files.table)
    (replay_files queues files (lanes_of c.args.table.now)) (inv.gives told queues files lists are again) c.in-Err.fault
    (c.in-Err.ensures.gives here queues file stands e ends (inv.lists queues lists))
