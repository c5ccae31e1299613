use Rattle.std.proofs.Common.{sym, ◌∙◌}
use Rattle.qq_recover.proofs.Cleared.{clears-one}
use Rattle.qq_recover.proofs.clear.remove_one.Goals as goal

pub returns-clause-clears : goal.returns-clause-clears
returns-clause-clears g c = λ names has.
    let r = c.remove_log.ensures in
    clears-one g.D.NodeDisk.facts names c.args.chain.now c.args.wal.now c.remove_log.new.self c.args.file has
    (sym c.is_unread.ensures ∙ c.if-not-is_unread.false) r.sound r.same r.told
    r.cause.later (λ told m. r.outside told c.requires.going m) r.stays r.may r.removes
