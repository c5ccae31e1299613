use Rattle.std.proofs.Common.{◌≡◌, ◌∙◌, List, Ok, ap, sym, subst}
use Rattle.std.specs.List.{AllByRecursion}
use Rattle.qq_disk.specs.Disk.{Disk, now, IsListing}
use Rattle.qq_wal_chain.specs.Chain.{good_length}
use Rattle.qq_wal_chain.specs.Lanes.{Lanes}
use Rattle.qq_wal_chain.specs.Wal.{wal}
use Rattle.qq_recover.specs.Answer.{Answer, Fails, Gives}
use Rattle.qq_recover.specs.Ends.{End, IsReadAgain, chain_ends}
use Rattle.qq_recover.specs.Files.{chain_files}
use Rattle.qq_recover.specs.Log.{IsNewest, good_of}
use Rattle.qq_wal.specs.Ranges.{ranges_of}
use Rattle.qq_wal.specs.Running.{top}
use Rattle.qq_recover.specs.Entries.{find_files, ranges_read}
use Rattle.qq_recover.specs.Reading.{lanes_read, shown}
use Rattle.qq_recover.specs.Replay.{replay_files}
use Rattle.qq_recover.specs.Table.{lanes_of}
use Rattle.qq_recover.proofs.Again.{again, ends-are, ends-refused}
use Rattle.qq_recover.proofs.LogLaws.{lanes-refused, lanes-replayed, newest-read, newest-of, ranges-found, ranges-kept}
use Rattle.qq_recover.proofs.Numbered.{numbered-of}
use Rattle.qq_recover.proofs.Quiet.{still}
use Rattle.qq_recover.proofs.log.read_log.Goals as goal

pub returns-in-Err-clause-lanes : goal.returns-in-Err-clause-lanes
returns-in-Err-clause-lanes g c = λ told listing.
    let facts = g.D.NodeDisk.facts in
    let queues = c.args.queues.now in
    let logs = shown (now (facts.past c.args.disk.now)) in
    let n = c.in_ok-file.file in
    let same = c.newest_file.ensures.reads.same told in
    lanes-refused queues logs n c.in-Err.fault (c.in_ok-file.ensures.ok told listing queues)
    (ends-refused c.in-Err.fault (chain_files queues top logs n (good_length (wal queues) n (logs n)))
    (subst (λ (p : List Disk). Fails c.in-Err.fault (chain_ends queues top (shown (now p)) n
    (good_length (wal queues) n (shown (now p) n)))) same
    (c.in-Err.ensures.gives (still facts c.args.disk.now c.newest_file.new.disk c.newest_file.ensures.reads told)
    (subst (λ (p : List Disk). IsListing (now p) c.args.names.now) (sym same) listing) queues)))

pub returns-in-Ok-clause-lanes : goal.returns-in-Ok-clause-lanes
returns-in-Ok-clause-lanes g c = λ told listing.
    let facts = g.D.NodeDisk.facts in
    let queues = c.args.queues.now in
    let logs = shown (now (facts.past c.args.disk.now)) in
    let n = c.in_ok-file.file in
    let is = c.in_ok-file.ensures.ok told listing queues in
    let same = c.newest_file.ensures.reads.same told in
    let named = still facts c.args.disk.now c.newest_file.new.disk c.newest_file.ensures.reads told in
    let later = c.chain_ends.ensures.reads.same named ∙ same in
    let ended = still facts c.newest_file.new.disk c.chain_ends.new.disk c.chain_ends.ensures.reads named in
    let ends = ends-are (chain_files queues top logs n (good_length (wal queues) n (logs n))) c.in-Ok.chain.items
    (subst (λ (p : List Disk). chain_ends queues top (shown (now p)) n
    (good_length (wal queues) n (shown (now p) n)) ≡ Ok c.in-Ok.chain.items) same
    (c.in-Ok.ensures.gives named (subst (λ (p : List Disk). IsListing (now p) c.args.names.now) (sym same) listing)
    queues)) in
    let stand = subst (λ (p : List Disk). AllByRecursion (IsReadAgain queues (shown (now p))) ends.files) (sym later)
    (again queues logs top n (good_length (wal queues) n (logs n)) ends.files ends.is) in
    subst (λ (read : Answer Lanes). Gives (λ log. lanes_of log.table) c.put_together.result read)
    (ap (replay_files queues ends.files) c.in_ok-table.ensures.empty
    ∙ sym (lanes-replayed queues logs n ends.files is ends.is))
    (c.put_together.ensures.gives ended queues ends.files ends.are stand c.in_ok-table.ensures.lists)

pub returns-in-Ok-clause-newest : goal.returns-in-Ok-clause-newest
returns-in-Ok-clause-newest g c = λ told listing.
    let facts = g.D.NodeDisk.facts in
    let queues = c.args.queues.now in
    let logs = shown (now (facts.past c.args.disk.now)) in
    let n = c.in_ok-file.file in
    let is = c.in_ok-file.ensures.ok told listing queues in
    let same = c.newest_file.ensures.reads.same told in
    let named = still facts c.args.disk.now c.newest_file.new.disk c.newest_file.ensures.reads told in
    let later = c.chain_ends.ensures.reads.same named ∙ same in
    let ended = still facts c.newest_file.new.disk c.chain_ends.new.disk c.chain_ends.ensures.reads named in
    let ends = ends-are (chain_files queues top logs n (good_length (wal queues) n (logs n))) c.in-Ok.chain.items
    (subst (λ (p : List Disk). chain_ends queues top (shown (now p)) n
    (good_length (wal queues) n (shown (now p) n)) ≡ Ok c.in-Ok.chain.items) same
    (c.in-Ok.ensures.gives named (subst (λ (p : List Disk). IsListing (now p) c.args.names.now) (sym same) listing)
    queues)) in
    let stand = subst (λ (p : List Disk). AllByRecursion (IsReadAgain queues (shown (now p))) ends.files) (sym later)
    (again queues logs top n (good_length (wal queues) n (logs n)) ends.files ends.is) in
    newest-of queues logs n (good_of c.in-Ok.chain.items) c.put_together.result
    (subst (λ (l : List End). IsNewest queues logs n (good_of l)) ends.are
    (newest-read queues logs n ends.files is ends.is))
    c.put_together.ensures.file c.put_together.ensures.good

pub returns-in-Ok-clause-ranges : goal.returns-in-Ok-clause-ranges
returns-in-Ok-clause-ranges g c = λ told listing.
    let facts = g.D.NodeDisk.facts in
    let queues = c.args.queues.now in
    let logs = shown (now (facts.past c.args.disk.now)) in
    let n = c.in_ok-file.file in
    let is = c.in_ok-file.ensures.ok told listing queues in
    let same = c.newest_file.ensures.reads.same told in
    let named = still facts c.args.disk.now c.newest_file.new.disk c.newest_file.ensures.reads told in
    let later = c.chain_ends.ensures.reads.same named ∙ same in
    let ended = still facts c.newest_file.new.disk c.chain_ends.new.disk c.chain_ends.ensures.reads named in
    let ends = ends-are (chain_files queues top logs n (good_length (wal queues) n (logs n))) c.in-Ok.chain.items
    (subst (λ (p : List Disk). chain_ends queues top (shown (now p)) n
    (good_length (wal queues) n (shown (now p) n)) ≡ Ok c.in-Ok.chain.items) same
    (c.in-Ok.ensures.gives named (subst (λ (p : List Disk). IsListing (now p) c.args.names.now) (sym same) listing)
    queues)) in
    let stand = subst (λ (p : List Disk). AllByRecursion (IsReadAgain queues (shown (now p))) ends.files) (sym later)
    (again queues logs top n (good_length (wal queues) n (logs n)) ends.files ends.is) in
    ranges-kept (ranges_read queues logs) (find_files ends.files (ranges_of queues)) c.put_together.result
    (ranges-found queues logs n ends.files is ends.is)
    (c.put_together.ensures.ranges ended queues ends.files ends.are stand)

pub returns-in-Ok-clause-chain : goal.returns-in-Ok-clause-chain
returns-in-Ok-clause-chain g c = λ told listing.
    let facts = g.D.NodeDisk.facts in
    let queues = c.args.queues.now in
    let logs = shown (now (facts.past c.args.disk.now)) in
    let n = c.in_ok-file.file in
    let is = c.in_ok-file.ensures.ok told listing queues in
    let same = c.newest_file.ensures.reads.same told in
    let named = still facts c.args.disk.now c.newest_file.new.disk c.newest_file.ensures.reads told in
    let later = c.chain_ends.ensures.reads.same named ∙ same in
    let ended = still facts c.newest_file.new.disk c.chain_ends.new.disk c.chain_ends.ensures.reads named in
    let ends = ends-are (chain_files queues top logs n (good_length (wal queues) n (logs n))) c.in-Ok.chain.items
    (subst (λ (p : List Disk). chain_ends queues top (shown (now p)) n
    (good_length (wal queues) n (shown (now p) n)) ≡ Ok c.in-Ok.chain.items) same
    (c.in-Ok.ensures.gives named (subst (λ (p : List Disk). IsListing (now p) c.args.names.now) (sym same) listing)
    queues)) in
    let stand = subst (λ (p : List Disk). AllByRecursion (IsReadAgain queues (shown (now p))) ends.files) (sym later)
    (again queues logs top n (good_length (wal queues) n (logs n)) ends.files ends.is) in
    numbered-of queues (c.the_log_has_a_format.ensures queues) logs n ends.files c.in-Ok.chain c.put_together.result is
    ends.is ends.are
    (subst (λ (read : Answer Lanes). Gives (λ log. lanes_of log.table) c.put_together.result read)
    (ap (replay_files queues ends.files) c.in_ok-table.ensures.empty
    ∙ sym (lanes-replayed queues logs n ends.files is ends.is))
    (c.put_together.ensures.gives ended queues ends.files ends.are stand c.in_ok-table.ensures.lists))
    c.put_together.ensures.chain
