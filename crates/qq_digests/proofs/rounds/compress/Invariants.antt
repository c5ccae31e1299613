use Rattle.std.proofs.Common.{ℕ, ◌+◌, ◌*◌, ◌<◌, take, drop}
use Rattle.sha2.specs.Sha256.{IsRoundsAt}
use Rattle.qq_digests.specs.Lanes.{lane, words_of}
use Rattle.qq_digests.proofs.rounds.compress.Given as goal

abbrev pub invariant-schedule : goal.invariant-schedule
invariant-schedule l = (j : ℕ) → j < 8 →
    IsRoundsAt (take 64 (drop (j * l.size + l.at) l.bytes)) (lane j l.state) (words_of j l.words) (lane j l.v) (16 * l.turn)
