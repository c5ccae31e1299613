-- A taker that keeps what it has seen.
use Rattle.std.specs.Prelude.{List}
use Rattle.qq_taker.specs.declared.taker.Seen.{Seen}
use Rattle.qq_taker.specs.declared.taker.Verdict.{Verdict}

pub record Noting : Type 0 where
  pub verdict : Verdict
  pub list : List Seen
