use Rattle.std.proofs.Common.{◌≡◌, ◌*◌, length, take}
use Rattle.sha2.specs.Sha256.{digest_bytes}
use Rattle.qq_digests.proofs.group.digest_bytes.Given as goal

abbrev pub invariant-words : goal.invariant-words
invariant-words l = record {
  long : length l.out ≡ 32;
  front : take (4 * l.i) l.out ≡ digest_bytes l.hash l.i;
}
