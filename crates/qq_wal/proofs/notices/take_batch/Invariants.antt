use Rattle.std.proofs.Common.{◌≡◌, take, drop}
use Rattle.std.specs.List.{fold}
use Rattle.qq_wal.specs.Notices.{note_record}
use Rattle.qq_wal.proofs.notices.take_batch.Given as goal

-- as many are taken as the loop has come
abbrev pub invariant-loop : goal.invariant-loop
invariant-loop l = record {
  waiting : l.waiting.items ≡ drop l.counter l.fn.waiting.items;
  marks : l.marks ≡ fold note_record l.fn.marks (take l.counter l.fn.waiting.items);
}
