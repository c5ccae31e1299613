use Rattle.std.proofs.Common.{sym, ◌∙◌}
use Rattle.qq_wal.proofs.Rising.{synced-at}
use Rattle.qq_wal.proofs.table.synced_at.Goals as goal

pub place_of-place-requires : goal.place_of-place-requires
place_of-place-requires c = sym c.requires ∙ c.if-not-rising.false

pub returns : goal.returns
returns c =
    c.synced_by.ensures
    ∙ synced-at c.args.queue c.args.marks.now c.place_of-place.result (sym c.requires ∙ c.if-not-rising.false)
    c.place_of-place.ensures.place
