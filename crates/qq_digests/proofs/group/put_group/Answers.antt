use Rattle.std.proofs.Common.{◌≡◌, ℕ, ◌*◌, ◌<◌, List, [], ◌++◌, length, map, take, get_or, slice_index, sym, ap, subst, ◌∙◌, arith}
use Rattle.std.proofs.lemmas.List.{get_or-map, length-map, take_at}
use Rattle.qq_base.specs.Fronts.{IsFront}
use Rattle.sha2.specs.Sha256.{padded_message, sha256}
use Rattle.qq_digests.specs.Lanes.{bytes_of, with_prefix}
use Rattle.qq_digests.proofs.Blocks.{length-padded, same_front, sha256_of_front}
use Rattle.qq_digests.proofs.group.put_group.Goals as goal

pub returns-clause-ok : goal.returns-clause-ok
returns-clause-ok c =
    let ms = c.args.messages.now in
    let w = with_prefix c.args.prefix.now ms in
    let long : length w ≡ length ms = length-map ms _ in
    let size : ℕ = 64 * c.args.most in
    let bytes = c.as_slice.result.now in
    let found = c.hash_blocks-found.result in
    let is : bytes ≡ c.fill.new.bytes =
    c.as_slice.ensures.value ∙ take_at c.fill.new.bytes _ _ (omega (arith, c.as_mut_slice.ensures.len)) in
    let each : (j : ℕ) → j < length ms → get_or found j [] ≡ get_or (map sha256 w) j [] = λ j lt.
    let m : List ℕ = get_or w j [] in
    let blocks : length (padded_message m) ≡ 64 * slice_index c.args.counts j = c.requires.counts j lt in
    let some : 0 < slice_index c.args.counts j = omega (arith, length-padded m) in
    c.hash_blocks-found.ensures j (omega arith) some
    ∙ sha256_of_front (slice_index c.args.counts j) m (bytes_of size j bytes) blocks
    (subst (λ (l : List ℕ). IsFront (padded_message m) (bytes_of size j l)) (sym is) (c.fill.ensures j lt))
    ∙ sym (get_or-map sha256 w j [] [] (omega arith)) in
    let same : take (length ms) found ≡ map sha256 w =
    same_front [] (length ms) found (map sha256 w) (length-map w sha256 ∙ long) (omega arith) each in
    c.in_ok-extend_from_slice.ensures.items ∙ ap (λ (l : List (List ℕ)). c.args.out.now.items ++ l) same
