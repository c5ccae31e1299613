use Rattle.qq_node_log.proofs.Finding.{crashed-promised}
use Rattle.qq_node_log.proofs.laws.what_is_left_after_a_crash_is_promised.Goals as goal

pub returns-clause-promised : goal.returns-clause-promised
returns-clause-promised c = crashed-promised

pub returns-clause-honest : goal.returns-clause-honest
returns-clause-honest c = λ lot image d none newest is.
    c.a_crash_without_junk_keeps_the_promise.ensures.image _ image newest d none
