use Rattle.std.proofs.Common.{◌≡◌, ℕ, ◌+◌, ◌*◌, ◌<◌, length, slice_index}
use Rattle.sha2.specs.Sha256.{word_at}
use Rattle.qq_digests.specs.Lanes.{words_of}
use Rattle.qq_digests.proofs.rounds.load.Given as goal

abbrev pub invariant-load : goal.invariant-load
invariant-load l = record {
  long : length l.words ≡ 16;
  words : (j k : ℕ) → j < 8 → k < l.i → slice_index (words_of j l.words) k ≡ word_at l.bytes (j * l.size + (l.at + 4 * k));
}
