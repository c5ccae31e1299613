use Rattle.std.proofs.Common.{sym, ◌∙◌}
use Rattle.qq_wal.proofs.Runs.{found-at}
use Rattle.qq_wal.proofs.older.find_in.Goals as goal

pub file_place-place-requires : goal.file_place-place-requires
file_place-place-requires c = sym c.requires ∙ c.if-not-rising.false

pub returns : goal.returns
returns c =
    c.range_at.ensures
    ∙ found-at c.args.cut c.args.file c.args.spans.now c.file_place-place.result
    (sym c.requires ∙ c.if-not-rising.false) c.file_place-place.ensures
