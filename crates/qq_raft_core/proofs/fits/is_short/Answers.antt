use Rattle.std.proofs.Common.{sym, arith}
use Rattle.std.proofs.lemmas.Bool.{lt-leb}
use Rattle.qq_raft_core.proofs.Ranges.{front_short}
use Rattle.qq_raft_core.proofs.fits.is_short.Goals as goal

pub returns-then-len-gt-RECORD_LIMIT : goal.returns-then-len-gt-RECORD_LIMIT
returns-then-len-gt-RECORD_LIMIT c =
    sym (lt-leb _ _ (omega (
      arith,
      front_short c.entries.entry-index c.args.entries.now,
      c.entries.invariant,
      c.if-len-gt-RECORD_LIMIT.true,
    )))
