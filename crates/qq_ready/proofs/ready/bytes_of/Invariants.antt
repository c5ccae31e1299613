use Rattle.std.proofs.Common.{◌≡◌, ◌≤◌, ◌*◌, ◌^◌, take}
use Rattle.qq_ready.specs.Queue.{bytes_of}
use Rattle.qq_ready.proofs.ready.bytes_of.Given as goal

-- the sum so far is that of the rows so far, which have fewer than 2^32 bytes each
abbrev pub invariant-loop-one : goal.invariant-loop-one
invariant-loop-one l = record {
  sum : l.sum ≡ bytes_of (take l.one-index l.rows);
  fits : l.sum ≤ l.one-index * 2 ^ 32;
}
