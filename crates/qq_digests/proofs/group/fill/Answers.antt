use Rattle.std.proofs.Common.{rules, ℕ, ◌+◌, ◌-◌, ◌*◌, ◌≤◌, List, [], length, get_or, sym, subst, arith}
use Rattle.std.proofs.Math.Nat.{mul-le-mul_right}
use Rattle.std.proofs.lemmas.Slice.{overwrites}
use borrow.Rule.Slice.PartMut.{put_mid}
use Rattle.qq_base.specs.Fronts.{IsFront}
use Rattle.sha2.specs.Sha256.{padded_message}
use Rattle.qq_digests.specs.Lanes.{bytes_of, with_prefix}
use Rattle.qq_digests.proofs.Blocks.{below_next, place_before, place_here, place_long, prefixed}
use Rattle.qq_digests.proofs.group.fill.Goals as goal

pub put_padded-requires : goal.put_padded-requires
put_padded-requires c =
    let j = c.messages.j in
    let long = place_long c.args.size j c.messages.bytes (omega arith) (omega arith) in
    omega (
      arith,
      long,
      subst (λ (m : List ℕ). length (padded_message m) ≤ c.args.size)
          (prefixed c.args.prefix.now c.args.messages.now j (omega arith)) (c.requires.room j (omega arith)),
    )

pub messages-preserved : goal.messages-preserved
messages-preserved c =
    let p = c.args.prefix.now in
    let ms = c.args.messages.now in
    let size = c.args.size in
    let bytes = c.messages.bytes in
    let j = c.messages.j in
    let here = c.put_padded.new.bytes in
    let message = λ (k : ℕ). padded_message (get_or (with_prefix p ms) k []) in
    let within : (j + 1) * size ≤ 8 * size = mul-le-mul_right size (omega arith) in
    let fits : j * size ≤ length bytes = omega arith in
    let long = place_long size j bytes (omega arith) (omega arith) in
    let all : List ℕ = put_mid (j * size) (j * size + size - j * size) bytes here in
    record {
      long = search (rules, overwrites);
      filled =
          below_next (λ (k : ℕ). IsFront (message k) (bytes_of size k all)) j
          (λ k less. subst (IsFront (message k)) (sym (place_before size j k _ bytes here less fits))
          (c.messages.invariant.filled k less))
          (subst (IsFront (message j)) (sym (place_here size j _ bytes here fits (omega (arith, long))))
          (subst (λ (m : List ℕ). IsFront (padded_message m) here) (sym (prefixed p ms j (omega arith)))
          c.put_padded.ensures));
    }
