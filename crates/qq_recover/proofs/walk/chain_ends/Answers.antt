use Rattle.std.proofs.Common.{◌≡◌, ◌∙◌, ◌<◌, ℕ, ◌++◌, ◌∷◌, [], List, Some, None, Ok, option_map, ap, sym, subst, arith, rules}
use Rattle.qq_disk.specs.Disk.{Disk, now, IsListing}
use Rattle.qq_recover.specs.Answer.{Fails}
use Rattle.qq_recover.specs.Ends.{End}
use Rattle.qq_recover.specs.Files.{file_at, good_end}
use Rattle.qq_recover.specs.Reading.{shown}
use Rattle.qq_wal.proofs.Steps.{in_top}
use Rattle.qq_recover.proofs.Quiet.{reads-none, reads-then, still}
use Rattle.qq_recover.proofs.Way.{file-back}
use Rattle.qq_recover.proofs.WayEnds.{ends-absent, ends-on, ends-over, ends-refuse, way-begins}
use Rattle.qq_recover.proofs.walk.chain_ends.Goals as goal

pub files-init : goal.files-init
files-init g c =
    record {
      gives = λ told listing queues.
          way-begins queues (shown (now (g.D.NodeDisk.facts.past c.args.disk.now))) c.args.newest
          c.new-ends.result.items c.new-ends.ensures.items;
      reads = reads-none g.D.NodeDisk.facts c.args.disk.now;
      later = omega arith;
      within = in_top c.args.newest (search rules);
    }

pub returns-in_default-clause-gives : goal.returns-in_default-clause-gives
returns-in_default-clause-gives g c = λ told listing queues.
    let facts = g.D.NodeDisk.facts in
    let logs = shown (now (facts.past c.args.disk.now)) in
    let same = c.files.invariant.reads.same told in
    let here : logs c.files.number ≡ None =
    sym (subst (λ (p : List Disk). option_map (λ b. b.items) c.in_ok-bytes.field-0 ≡ shown (now p) c.files.number)
    same (c.in_ok-bytes.ensures.ok (still facts c.args.disk.now c.files.disk c.files.invariant.reads told)
    (subst (λ (p : List Disk). IsListing (now p) c.args.names.now) (sym same) listing)))
    ∙ ap (option_map (λ b. b.items)) c.in_default.is in
    ends-absent queues logs c.args.newest c.files.ends.items c.files.number c.files.good (omega arith)
    c.files.invariant.within (c.files.invariant.gives told listing queues) here

pub returns-in-Err-clause-gives : goal.returns-in-Err-clause-gives
returns-in-Err-clause-gives g c = λ told listing queues.
    let facts = g.D.NodeDisk.facts in
    let logs = shown (now (facts.past c.args.disk.now)) in
    let same = c.files.invariant.reads.same told in
    let here : logs c.files.number ≡ Some c.in-Some.bytes.items =
    sym (subst (λ (p : List Disk). option_map (λ b. b.items) c.in_ok-bytes.field-0 ≡ shown (now p) c.files.number)
    same (c.in_ok-bytes.ensures.ok (still facts c.args.disk.now c.files.disk c.files.invariant.reads told)
    (subst (λ (p : List Disk). IsListing (now p) c.args.names.now) (sym same) listing)))
    ∙ ap (option_map (λ b. b.items)) c.in-Some.is in
    ends-refuse queues logs c.args.newest c.files.ends.items c.files.number c.files.good (omega arith)
    c.files.invariant.within (c.files.invariant.gives told listing queues) c.in-Some.bytes.items c.in-Err.fault here
    (subst (λ (bs : List ℕ). Fails c.in-Err.fault (file_at queues c.files.number
    (good_end queues c.files.number c.files.good bs) bs)) c.deref.ensures.value (c.in-Err.ensures.gives queues))

pub files-smaller : goal.files-smaller
files-smaller g c =
    file-back [] c.files.number (good_end [] c.files.number c.files.good c.deref.result.now) c.deref.result.now
    c.in-Ok.header c.in-Ok.file (c.in-Ok.ensures.gives [])

pub files-preserved : goal.files-preserved
files-preserved g c =
    let back : c.in-Ok.header.previous < c.files.number =
    file-back [] c.files.number (good_end [] c.files.number c.files.good c.deref.result.now) c.deref.result.now
    c.in-Ok.header c.in-Ok.file (c.in-Ok.ensures.gives []) in
    record {
      gives = λ told listing queues.
          let facts = g.D.NodeDisk.facts in
          let logs = shown (now (facts.past c.args.disk.now)) in
          let same = c.files.invariant.reads.same told in
          let here : logs c.files.number ≡ Some c.in-Some.bytes.items =
          sym (subst (λ (p : List Disk). option_map (λ b. b.items) c.in_ok-bytes.field-0 ≡ shown (now p) c.files.number)
          same (c.in_ok-bytes.ensures.ok (still facts c.args.disk.now c.files.disk c.files.invariant.reads told)
          (subst (λ (p : List Disk). IsListing (now p) c.args.names.now) (sym same) listing)))
          ∙ ap (option_map (λ b. b.items)) c.in-Some.is in
          ends-on queues logs c.args.newest c.files.ends.items c.files.number c.files.good (omega arith)
          c.files.invariant.within (c.files.invariant.gives told listing queues) c.in-Some.bytes.items
          c.in-Ok.header c.in-Ok.file _ here
          (subst (λ (bs : List ℕ). file_at queues c.files.number (good_end queues c.files.number c.files.good bs) bs
          ≡ Ok (c.in-Ok.header, c.in-Ok.file)) c.deref.ensures.value (c.in-Ok.ensures.gives queues))
          (c.in_ok-push-in-Ok.ensures.items
          ∙ ap (λ (end : End). c.files.ends.items ++ end ∷ []) c.new.ensures);
      reads = reads-then g.D.NodeDisk.facts c.args.disk.now c.files.disk c.read_listed.new.disk c.files.invariant.reads
          c.read_listed.ensures.reads;
      later = omega (arith, c.files.invariant.later, c.read_listed.ensures.cause.later);
      within = omega (arith, back, c.files.invariant.within);
    }

pub returns-clause-gives : goal.returns-clause-gives
returns-clause-gives g c = λ told listing queues.
    ends-over queues (shown (now (g.D.NodeDisk.facts.past c.args.disk.now))) c.args.newest c.files.ends.items
    c.files.number c.files.good (c.files.invariant.gives told listing queues) (omega arith)
