use Rattle.std.proofs.Common.{◌≡◌, ℕ, ◌/◌, ◌^◌, bit_xor, slice_index, ◌∙◌, arith}
use Rattle.qq_digests.proofs.Bytes.{word_fits}
use Rattle.qq_digests.proofs.Shifts.{left_two, right_three, rotated_two, shl}
use Rattle.qq_digests.proofs.words.small_sigma1.Goals as goal

pub returns : goal.returns
returns c = λ j lt.
    let x : ℕ = slice_index c.args.x j in
    let low : slice_index c.right-low.result j ≡ bit_xor (bit_xor (x / 2 ^ 19) (x / 2 ^ 17)) (x / 2 ^ 10) =
    rw (c.right-low.ensures j lt, c.xor-2.ensures j lt, c.right-2.ensures j lt, c.xor.ensures j lt, c.right.ensures j lt)
    (right_three x 2 7 10) in
    let high : slice_index c.left-high.result j ≡ bit_xor (shl x 15) (shl x 13) =
    rw (c.left-high.ensures j lt, c.xor-3.ensures j lt, c.left.ensures j lt) (left_two x 2 13) in
    c.xor-4.ensures j lt
    ∙ rotated_two x 17 19 10 15 13 _ _ (word_fits c.args.x j c.fits-x.0 c.fits-x.1 lt) (omega arith) (omega arith) low high
