use Rattle.std.proofs.Common.{◌≡◌, ◌*◌, ◌++◌, ◌≤◌, length, map, drop}
use Rattle.std.specs.List.{sum}
use Rattle.sha2.specs.Sha256.{sha256}
use Rattle.qq_digests.specs.Pieces.{pieces}
use Rattle.qq_digests.proofs.put_digests.Given as goal

-- what was added and the digests of the rest's pieces are all
abbrev pub invariant-groups : goal.invariant-groups
invariant-groups l = record {
  added : l.out.items ++ map (λ piece. sha256 (l.prefix ++ piece)) (pieces (drop (8 * l.i) l.lengths) l.rest)
      ≡ l.initial.out.items ++ map (λ piece. sha256 (l.prefix ++ piece)) (pieces l.lengths l.bytes);
  room : sum (drop (8 * l.i) l.lengths) ≤ length l.rest;
}
