use Rattle.std.proofs.Common.{◌≡◌, ap, ◌∙◌}
use Rattle.qq_dir_disk.specs.Name.{file_named}
use Rattle.qq_dir_disk.proofs.Names.{read_some, read_none}
use Rattle.qq_dir_disk.proofs.name.file_name.Goals as goal

pub returns : goal.returns
returns c =
    let is : c.named.result ≡ file_named c.args.text.now = c.named.ensures ∙ ap file_named c.as_bytes.ensures.value in
    record { ok = read_some c.args.text.now c.named.result is; none = read_none c.args.text.now c.named.result is }
