use Rattle.std.proofs.Common.{◌≡◌, ◌∙◌, Ok, sym, subst}
use Rattle.std.specs.List.{fold}
use Rattle.std.specs.Prelude.{OnOk}
use Rattle.qq_wal.specs.Ranges.{ranges_in}
use Rattle.qq_recover.specs.declared.file.ChainFile.{ChainFile}
use Rattle.qq_recover.specs.Answer.{Gives}
use Rattle.qq_recover.specs.Entries.{find_record}
use Rattle.qq_recover.specs.Replay.{replay_records}
use Rattle.qq_recover.specs.Table.{lanes_of}
use Rattle.qq_recover.proofs.Again.{fails-ok, same-ok}
use Rattle.qq_recover.proofs.Passing.{get-any}
use Rattle.qq_recover.proofs.replay.replay_at.Goals as goal

pub returns-in-Ok-clause-gives : goal.returns-in-Ok-clause-gives
returns-in-Ok-clause-gives g c = λ told queues file again other same lists.
    let end = c.index-chain-place.result in
    let read : file ≡ c.in-Ok.file =
    same-ok file c.in-Ok.file (c.in-Ok.ensures.gives told queues file again
    (same ∙ get-any c.args.chain.now c.args.place other end c.requires ∙ sym c.index-chain-place.is)) in
    subst (λ (f : ChainFile). Gives (λ _. lanes_of c.add_file.new.table) c.add_file.result
    (replay_records queues f.number f.records (lanes_of c.args.table.now))) (sym read)
    (c.add_file.ensures.gives queues lists)

pub returns-in-Ok-clause-ranges : goal.returns-in-Ok-clause-ranges
returns-in-Ok-clause-ranges g c = λ told queues file again other same.
    let end = c.index-chain-place.result in
    let read : file ≡ c.in-Ok.file =
    same-ok file c.in-Ok.file (c.in-Ok.ensures.gives told queues file again
    (same ∙ get-any c.args.chain.now c.args.place other end c.requires ∙ sym c.index-chain-place.is)) in
    subst (λ (f : ChainFile). OnOk c.add_file.result (ranges_in c.add_file.new.ranges
    ≡ fold (find_record f.number) (ranges_in c.args.ranges.now) f.records)) (sym read)
    c.add_file.ensures.ranges

pub returns-in-Err-clause-gives : goal.returns-in-Err-clause-gives
returns-in-Err-clause-gives g c = λ told queues file again other same lists.
    let end = c.index-chain-place.result in
    fails-ok c.in-Err.fault file (replay_records queues file.number file.records (lanes_of c.args.table.now))
    (c.in-Err.ensures.gives told queues file again
    (same ∙ get-any c.args.chain.now c.args.place other end c.requires ∙ sym c.index-chain-place.is))
