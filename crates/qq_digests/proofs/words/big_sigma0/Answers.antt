use Rattle.std.proofs.Common.{◌≡◌, ℕ, ◌/◌, ◌^◌, bit_xor, slice_index, ◌∙◌, arith}
use Rattle.qq_digests.proofs.Bytes.{word_fits}
use Rattle.qq_digests.proofs.Shifts.{left_three, right_three, rotated_three, shl}
use Rattle.qq_digests.proofs.words.big_sigma0.Goals as goal

pub returns : goal.returns
returns c = λ j lt.
    let x : ℕ = slice_index c.args.x j in
    let low : slice_index c.right-low.result j ≡ bit_xor (bit_xor (x / 2 ^ 22) (x / 2 ^ 13)) (x / 2 ^ 2) =
    rw (c.right-low.ensures j lt, c.xor-2.ensures j lt, c.right-2.ensures j lt, c.xor.ensures j lt, c.right.ensures j lt)
    (right_three x 9 11 2) in
    let high : slice_index c.left-high.result j ≡ bit_xor (bit_xor (shl x 30) (shl x 19)) (shl x 10) =
    rw (c.left-high.ensures j lt, c.xor-4.ensures j lt, c.left-2.ensures j lt, c.xor-3.ensures j lt, c.left.ensures j lt)
    (left_three x 11 9 10) in
    c.xor-5.ensures j lt
    ∙ rotated_three x 2 13 22 30 19 10 _ _ (word_fits c.args.x j c.fits-x.0 c.fits-x.1 lt) (omega arith) (omega arith)
    (omega arith) low high
