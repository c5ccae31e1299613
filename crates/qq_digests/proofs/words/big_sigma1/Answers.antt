use Rattle.std.proofs.Common.{◌≡◌, ℕ, ◌/◌, ◌^◌, bit_xor, slice_index, ◌∙◌, arith}
use Rattle.qq_digests.proofs.Bytes.{word_fits}
use Rattle.qq_digests.proofs.Shifts.{left_three, right_three, rotated_three, shl}
use Rattle.qq_digests.proofs.words.big_sigma1.Goals as goal

pub returns : goal.returns
returns c = λ j lt.
    let x : ℕ = slice_index c.args.x j in
    let low : slice_index c.right-low.result j ≡ bit_xor (bit_xor (x / 2 ^ 25) (x / 2 ^ 11)) (x / 2 ^ 6) =
    rw (c.right-low.ensures j lt, c.xor-2.ensures j lt, c.right-2.ensures j lt, c.xor.ensures j lt, c.right.ensures j lt)
    (right_three x 14 5 6) in
    let high : slice_index c.left-high.result j ≡ bit_xor (bit_xor (shl x 26) (shl x 21)) (shl x 7) =
    rw (c.left-high.ensures j lt, c.xor-4.ensures j lt, c.left-2.ensures j lt, c.xor-3.ensures j lt, c.left.ensures j lt)
    (left_three x 5 14 7) in
    c.xor-5.ensures j lt
    ∙ rotated_three x 6 11 25 26 21 7 _ _ (word_fits c.args.x j c.fits-x.0 c.fits-x.1 lt) (omega arith) (omega arith)
    (omega arith) low high
