use Rattle.std.proofs.Common.{◌≡◌, ◌∙◌, List, Some, ap, sym, subst}
use Rattle.qq_wal_record.specs.declared.record.LogRecord.{LogRecord}
use Rattle.qq_wal_chain.specs.Lanes.{add_record}
use Rattle.qq_recover.specs.Placed.{Placed}
use Rattle.qq_recover.specs.Replay.{replay_records}
use Rattle.qq_recover.specs.Table.{lanes_of}
use Rattle.qq_recover.proofs.Tables.{fit-of, replay-one}
use Rattle.qq_recover.proofs.replay.replay_file.Goals as goal

pub returns-in_err-add-clause-lists : goal.returns-in_err-add-clause-lists
returns-in_err-add-clause-lists c = λ queues lists. c.add.ensures.lists queues (c.records.invariant queues lists).0

pub returns-then-not-branch-clause-lists : goal.returns-then-not-branch-clause-lists
returns-then-not-branch-clause-lists c = λ queues lists.
    c.add.ensures.lists queues (c.records.invariant queues lists).0

pub records-preserved : goal.records-preserved
records-preserved c = λ queues lists.
    let inv = c.records.invariant queues lists in
    let rest = c.pop_front.new.self.items in
    let fits : add_record queues c.in-Some.placed.entry (lanes_of c.records.table) ≡ Some (lanes_of c.add.new.self) =
    subst (λ (entry : LogRecord). add_record queues entry (lanes_of c.records.table) ≡ Some (lanes_of c.add.new.self))
    (ap (λ p. p.1) c.into_parts-place.ensures.parts)
    (fit-of c.in_ok-add.field-0 _ (lanes_of c.add.new.self) c.if-not-branch.false
    (c.in_ok-add.ensures.ok queues inv.0)) in (
      c.add.ensures.lists queues inv.0,
      sym (replay-one queues c.args.file.number c.in-Some.placed rest (lanes_of c.records.table)
          (lanes_of c.add.new.self) fits)
          ∙ ap (λ (rs : List Placed). replay_records queues c.args.file.number rs (lanes_of c.records.table))
          (sym c.in-Some.ensures.items) ∙ inv.1,
    )

pub returns-clause-lists : goal.returns-clause-lists
returns-clause-lists c = λ queues lists. (c.records.invariant queues lists).0
