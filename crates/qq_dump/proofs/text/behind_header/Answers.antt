use Rattle.std.proofs.Common.{◌≤◌, length, sym, arith}
use Rattle.std.proofs.lemmas.List.{drop_all}
use Rattle.qq_dump.proofs.text.behind_header.Goals as goal

pub returns-then-bytes-lt-HEADER : goal.returns-then-bytes-lt-HEADER
returns-then-bytes-lt-HEADER c =
    let short : length c.args.bytes.now ≤ 38 = omega arith in sym (drop_all 38 c.args.bytes.now short)
