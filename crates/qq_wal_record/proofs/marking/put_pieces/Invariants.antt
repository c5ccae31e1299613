use Rattle.std.proofs.Common.{◌≡◌, ◌++◌, ◌≤◌, length, drop}
use Rattle.std.specs.List.{sum}
use Rattle.qq_digests.specs.Pieces.{pieces}
use Rattle.qq_wal_record.specs.Marked.{with_fronts}
use Rattle.qq_wal_record.proofs.marking.put_pieces.Given as goal

-- what was added and what the rest has are all
abbrev pub invariant-pieces : goal.invariant-pieces
invariant-pieces l = record {
  added : l.out.items ++ with_fronts (pieces (drop l.i l.lengths) l.rest) (drop l.i l.digests)
      ≡ l.initial.out.items ++ with_fronts (pieces l.lengths l.bytes) l.digests;
  room : sum (drop l.i l.lengths) ≤ length l.rest;
}
