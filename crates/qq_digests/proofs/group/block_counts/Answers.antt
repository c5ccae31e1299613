use Rattle.std.proofs.Common.{◌≡◌, ℕ, ◌*◌, List, [], length, get_or, set, sym, ap, ◌∙◌, arith}
use Rattle.std.proofs.lemmas.List.{get_or-set_same, get_or-set_other, length-set}
use Rattle.sha2.specs.Sha256.{padded_message}
use Rattle.qq_digests.specs.Lanes.{with_prefix}
use Rattle.qq_digests.proofs.Blocks.{below_next, prefixed}
use Rattle.qq_digests.proofs.group.block_counts.Goals as goal

pub messages-preserved : goal.messages-preserved
messages-preserved c =
    let p = c.args.prefix.now in
    let ms = c.args.messages.now in
    let counts = c.messages.counts in
    let j = c.messages.j in
    let new = c.blocks_of.result in
    record {
      long = length-set counts j new ∙ c.messages.invariant.long;
      counted =
          below_next
          (λ (k : ℕ). length (padded_message (get_or (with_prefix p ms) k [])) ≡ 64 * get_or (set counts j new) k 0) j
          (λ k less. c.messages.invariant.counted k less
          ∙ ap (λ (n : ℕ). 64 * n) (sym (get_or-set_other counts j k new 0 (omega arith))))
          (ap (λ (m : List ℕ). length (padded_message m)) (prefixed p ms j (omega arith)) ∙ c.blocks_of.ensures
          ∙ ap (λ (n : ℕ). 64 * n) (sym (get_or-set_same counts j new 0 (omega arith))));
    }
