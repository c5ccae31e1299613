use Rattle.std.proofs.Common.{◌++◌, length-append, refl}
use Rattle.qq_digests.proofs.Blocks.{padded_in_parts}
use Rattle.qq_digests.proofs.padding.put_padded.Goals as goal

pub returns : goal.returns
returns c =
    let p = c.args.prefix.now in
    let m = c.args.message.now in
    padded_in_parts p m _ c.to_be_bytes.result c.put_at.new.bytes c.put_at-2.new.bytes c.put_at-3.new.bytes
    c.put_at-4.new.bytes c.block_count.result (c.block_count.ensures (p ++ m) (length-append p m)) refl
    c.to_be_bytes.ensures c.put_at.ensures c.put_at-2.ensures c.put_at-3.ensures c.put_at-4.ensures
