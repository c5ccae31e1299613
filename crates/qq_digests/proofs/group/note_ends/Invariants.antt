use Rattle.std.proofs.Common.{◌≡◌, ℕ, ◌<◌, ◌≤◌, [], length, slice_index, slice_index_or}
use Rattle.std.specs.Prelude.{if◌then◌else◌, ◌==◌}
use Rattle.sha2.specs.Sha256.{digest_bytes}
use Rattle.qq_digests.specs.Lanes.{lane}
use Rattle.qq_digests.proofs.group.note_ends.Given as goal

abbrev pub invariant-messages : goal.invariant-messages
invariant-messages l = record {
  long : length l.found ≡ 8;
  noted : (k : ℕ) → k < l.j → slice_index_or l.found k []
      ≡ (if slice_index l.counts k == l.count then digest_bytes (lane k l.state) 8 else slice_index_or l.initial.found k []);
  left : (k : ℕ) → l.j ≤ k → slice_index_or l.found k [] ≡ slice_index_or l.initial.found k [];
}
