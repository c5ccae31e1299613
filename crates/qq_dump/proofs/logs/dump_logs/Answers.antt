use Rattle.std.proofs.Common.{◌+◌, ◌∙◌, ℕ, List, drop, get_or, take, sym, ap, subst, arith, IsTrue}
use Rattle.std.proofs.lemmas.List.{take_more}
use Rattle.qq_disk.specs.Disk.{Disk, now, content}
use Rattle.qq_disk.specs.Image.{log_of}
use Rattle.qq_dump.specs.Listed.{files_of}
use Rattle.qq_dump.proofs.Written.{Wrote, HasBytes, goes-on, split, stops}
use Rattle.qq_dump.proofs.logs.dump_logs.Goals as goal

pub returns-in-Err-clause-err : goal.returns-in-Err-clause-err
returns-in-Err-clause-err g c =
    let tells = g.D.NodeDisk.facts.tells in
    let past = g.D.NodeDisk.facts.past in
    let written = g.O.Sink.written in
    let numbers = c.args.numbers.now in
    let at = c.loop-number.number-index in
    let d = now (past c.args.disk.now) in
    let e = c.in-Err.ensures.err in
    let has : HasBytes (tells c.args.disk.now) d (get_or numbers at 0) e.0 =
    λ told. e.1 (subst IsTrue (sym c.loop-number.invariant.told) told)
    ∙ ap (λ (p : List Disk). content (now p) (log_of (get_or numbers at 0))) (c.loop-number.invariant.same told) in
    let r = stops (tells c.args.disk.now) d (take at numbers) (get_or numbers at 0) (written c.args.output.now)
    (written c.loop-number.output) (written c.dump_log.new.output) c.loop-number.invariant.so e.0 has
    (drop (at + 1) numbers) c.in-Err.fault e.2 in (
      r.0,
      λ told. r.1 told ∙ ap (files_of d) (split numbers at c.loop-number-test.true),
      r.2,
    )

pub loop-number-preserved : goal.loop-number-preserved
loop-number-preserved g c =
    let tells = g.D.NodeDisk.facts.tells in
    let past = g.D.NodeDisk.facts.past in
    let written = g.O.Sink.written in
    let numbers = c.args.numbers.now in
    let at = c.loop-number.number-index in
    let d = now (past c.args.disk.now) in
    let e = c.in_default.ensures.ok in
    let still : IsTrue (tells c.args.disk.now) → IsTrue (tells c.loop-number.disk) =
    λ told. subst IsTrue (sym c.loop-number.invariant.told) told in
    let has : HasBytes (tells c.args.disk.now) d (get_or numbers at 0) e.0 =
    λ told. e.1 (still told)
    ∙ ap (λ (p : List Disk). content (now p) (log_of (get_or numbers at 0))) (c.loop-number.invariant.same told) in
    record {
      so = subst (λ (l : List ℕ). Wrote (tells c.args.disk.now) d l (written c.args.output.now)
          (written c.dump_log.new.output)) (sym (take_more numbers at 0 c.loop-number-test.true))
          (goes-on (tells c.args.disk.now) d (take at numbers) (get_or numbers at 0) (written c.args.output.now)
          (written c.loop-number.output) (written c.dump_log.new.output) c.loop-number.invariant.so e.0 has e.2);
      same = λ told. c.dump_log.ensures.same (still told) ∙ c.loop-number.invariant.same told;
      told = c.dump_log.ensures.told ∙ c.loop-number.invariant.told;
      disk_later = omega (arith, c.loop-number.invariant.disk_later, c.dump_log.ensures.disk);
      sink_later = omega (arith, c.loop-number.invariant.sink_later, c.dump_log.ensures.sink);
    }
