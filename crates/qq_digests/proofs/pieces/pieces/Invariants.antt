use Rattle.std.proofs.Common.{◌≡◌, ◌++◌, ◌≤◌, length, map, take, drop}
use Rattle.std.specs.List.{sum}
use Rattle.qq_digests.specs.Pieces.{pieces}
use Rattle.qq_digests.proofs.pieces.pieces.Given as goal

-- what was found and what the rest has are all
abbrev pub invariant-pieces : goal.invariant-pieces
invariant-pieces l = record {
  long : length l.found ≡ 8;
  found : map (λ piece. piece.now) (take l.i l.found) ++ pieces (drop l.i l.lengths) l.rest ≡ pieces l.lengths l.bytes;
  room : sum (drop l.i l.lengths) ≤ length l.rest;
  rest : drop (sum (drop l.i l.lengths)) l.rest ≡ drop (sum l.lengths) l.bytes;
}
