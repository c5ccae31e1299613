use Rattle.std.proofs.Common.{◌≡◌, ℕ, ◌<◌, [], length, slice_index_or}
use Rattle.qq_base.specs.Fronts.{IsFront}
use Rattle.sha2.specs.Sha256.{padded_message}
use Rattle.qq_digests.specs.Lanes.{bytes_of, with_prefix}
use Rattle.qq_digests.proofs.group.fill.Given as goal

abbrev pub invariant-messages : goal.invariant-messages
invariant-messages l = record {
  long : length l.bytes ≡ length l.initial.bytes;
  filled : (k : ℕ) → k < l.j
      → IsFront (padded_message (slice_index_or (with_prefix l.prefix l.messages) k [])) (bytes_of l.size k l.bytes);
}
