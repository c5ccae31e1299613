use Rattle.std.proofs.Common.{◌++◌}
use Rattle.qq_fields.specs.Writing.{u64}
use Rattle.qq_command.specs.Encoding.{entries}
use Rattle.qq_wal_record.specs.Encoding.{vote, change_payload}
use Rattle.qq_fields.proofs.Appends.{append_twice}
use Rattle.qq_wal_record.proofs.writing.put_change.Goals as goal

pub returns-clause-ok : goal.returns-clause-ok
unfolding change_payload
returns-clause-ok c =
    let front = u64 c.args.term.0 ++ vote c.args.by in
    append_twice c.args.out.now.items (front ++ u64 c.args.keep.0) (entries c.args.list.now)
    c.put_u64-2.new.out.items c.put_entries.new.out.items
    (append_twice c.args.out.now.items front (u64 c.args.keep.0) c.put_vote.new.out.items c.put_u64-2.new.out.items
    (append_twice c.args.out.now.items (u64 c.args.term.0) (vote c.args.by) c.put_u64.new.out.items
    c.put_vote.new.out.items c.in_ok-put_u64.ensures.ok c.in_ok-put_vote.ensures.ok) c.in_ok-put_u64-2.ensures.ok)
    c.in_ok-put_entries.ensures.ok
