use Rattle.std.proofs.Common.{◌≡◌, ℕ, ◌*◌, ◌<◌, [], length, slice_index, slice_index_or}
use Rattle.sha2.specs.Sha256.{padded_message}
use Rattle.qq_digests.specs.Lanes.{with_prefix}
use Rattle.qq_digests.proofs.group.block_counts.Given as goal

abbrev pub invariant-messages : goal.invariant-messages
invariant-messages l = record {
  long : length l.counts ≡ 8;
  counted : (k : ℕ) → k < l.j
      → length (padded_message (slice_index_or (with_prefix l.prefix l.messages) k [])) ≡ 64 * slice_index l.counts k;
}
