use Rattle.std.proofs.Common.{ap, ◌∙◌, length}
use Rattle.std.proofs.lemmas.Result.{err_from_is_err_and}
use Rattle.qq_log.specs.Log.{last_of}
use Rattle.qq_raft_core.proofs.Entries.{cut-last, spent-by}
use Rattle.qq_raft_core.proofs.raft.replace_tail.Goals as goal

pub returns-in_err-reserve-clause-cause : goal.returns-in_err-reserve-clause-cause
returns-in_err-reserve-clause-cause g c =
    let log = g.L.LogView.log in
    let old = log c.args.log.now in
    let p = err_from_is_err_and c.from_residual.result c.from_residual.ensures.1 in
    let last = ap last_of c.keep_to.ensures.cut ∙ cut-last old c.args.keep c.requires.whole c.requires.keep in
    rw (p.1, p.2) (spent-by c.in_err-reserve.field-0.0 c.args.keep (length old.entries) (length c.args.entries.now)
    (last_of (log c.keep_to.new.self)) last c.requires.keep c.requires.last c.requires.within
    c.in_err-reserve.ensures.cause)
