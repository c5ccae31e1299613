use Rattle.std.proofs.Common.{◌≡◌, ℕ, ◌*◌, ◌<◌, ◌≤◌, [], slice_index, slice_index_or}
use Rattle.sha2.specs.Sha256.{digest_bytes, hash_after, initial_hash_256}
use Rattle.qq_digests.specs.Lanes.{bytes_of, lane}
use Rattle.qq_digests.proofs.group.hash_blocks.Given as goal

abbrev pub invariant-turns : goal.invariant-turns
invariant-turns l = record {
  states : (j : ℕ) → j < 8 → lane j l.state ≡ hash_after initial_hash_256 (bytes_of (64 * l.most) j l.bytes) l.n;
  ended : (j : ℕ) → j < 8 → 0 < slice_index l.counts j → slice_index l.counts j ≤ l.n → slice_index_or l.found j []
      ≡ digest_bytes (hash_after initial_hash_256 (bytes_of (64 * l.most) j l.bytes) (slice_index l.counts j)) 8;
}
