use Rattle.std.proofs.Common.{◌∙◌, w8}
use Rattle.std.specs.Simd.Lanes.{chunk}
use Rattle.std.proofs.lemmas.Simd.{chunk-fits, length-chunk}
use Rattle.qq_digests.proofs.Bytes.{turned, word_bytes}
use Rattle.qq_digests.proofs.words.word_at.Goals as goal

pub returns : goal.returns
returns c =
    let bytes = c.args.bytes.now in
    let at = c.args.at in
    turned (chunk at 4 bytes) (length-chunk at 4 bytes c.requires) (chunk-fits w8 at 4 bytes c.type_inv.bytes)
    ∙ word_bytes bytes at c.requires
