use Rattle.std.proofs.Common.{◌≡◌, ℕ, List, ◌+◌, ◌*◌, ◌<◌, [], ◌∷◌, slice_index, sym, ap, ◌∙◌, arith}
use Rattle.sha2.specs.Sha256.{compress, digest_bytes, hash_after, initial_hash_256}
use Rattle.sha2.proofs.Absorbing256.{hash_after_next}
use Rattle.qq_digests.specs.Lanes.{bytes_of, lane}
use Rattle.qq_digests.proofs.Blocks.{ended_next}
use Rattle.qq_digests.proofs.Bytes.{block_within}
use Rattle.qq_digests.proofs.group.hash_blocks.Goals as goal

pub turns-init : goal.turns-init
unfolding hash_after
turns-init c = record {
  states = λ j lt. (λ i.
      c.splat.ensures j lt i ∷ c.splat-2.ensures j lt i ∷ c.splat-3.ensures j lt i ∷ c.splat-4.ensures j lt i
      ∷ c.splat-5.ensures j lt i ∷ c.splat-6.ensures j lt i ∷ c.splat-7.ensures j lt i ∷ c.splat-8.ensures j lt i ∷ []);
  ended = λ j lt some none. absurd (omega arith);
}

pub turns-preserved : goal.turns-preserved
turns-preserved c =
    let size = 64 * c.args.most in
    let bytes = c.args.bytes.now in
    let n = c.turns.n in
    let next : (j : ℕ) → j < 8 → lane j c.compress.new.state ≡ hash_after initial_hash_256 (bytes_of size j bytes) (n + 1) =
    λ j lt.
    c.compress.ensures j lt
    ∙ (λ i. compress (c.turns.invariant.states j lt i) (block_within bytes (j * size) size n (omega arith) i))
    ∙ sym (hash_after_next initial_hash_256 (bytes_of size j bytes) n) in
    record {
      states = next;
      ended = λ j lt some within.
          ended_next (slice_index c.args.counts j) n
          (λ (k : ℕ). digest_bytes (hash_after initial_hash_256 (bytes_of size j bytes) k) 8)
          _ _ _ (c.note_ends.ensures j lt) (ap (λ (h : List ℕ). digest_bytes h 8) (next j lt))
          (c.turns.invariant.ended j lt some) within;
    }

pub returns : goal.returns
returns c = λ j lt some.
    c.turns.invariant.ended j lt some (omega (arith, c.requires.counts j lt))
