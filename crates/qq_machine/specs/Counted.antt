-- How much is out with all consumers, and what came and left since the last commit.
use Rattle.std.specs.Prelude.{◌≡◌, ℕ, List, [], Option, Some, None, map, length}
use Rattle.qq_parts.specs.Parts.{Served, outs}
use Rattle.qq_base.specs.declared.ids.Index.{Index}
use Rattle.qq_consumer.specs.declared.row.ConsumerRow.{ConsumerRow}
use Rattle.qq_consumer.specs.Roster.{Roster, ConsumersState}
use Rattle.qq_ledger.specs.Ledger.{numbered_index, out_indices, Balances}
use Rattle.qq_consumer.specs.declared.fault.CreditFault.{CreditFault}
use Rattle.qq_consumer.specs.declared.fault.CreditFault.TheVariants.{Refused, Memory}

abbrev pub total : List Served → ℕ
total ones = length (outs ones)

-- how much is out, and was at the last commit
pub record AreCounted (consumers : ConsumersState) (out base : ℕ) : Type 0 where
  pub now_out : out ≡ total consumers.roster.served
  pub base_out : base ≡ total consumers.base.served

-- a credit that a rule refuses changes nothing
abbrev pub StaysIfRefused : CreditFault → Roster → Roster → Type 0
StaysIfRefused (Refused cause) old new = new ≡ old
StaysIfRefused Memory old new = Unit {0}

-- the consumers, and those at the last commit, with the indices of what came and left between
pub record RosterTracked : Type 0 where
  pub roster : Roster
  pub base : Roster
  pub came : List Index
  pub gone : List Index

pub record IsTracked (consumers : ConsumersState) (out base : ℕ) (came gone : List Index) : Type 0 where
  pub counted : AreCounted consumers out base
  pub balance : Balances (out_indices consumers.base.served) (out_indices consumers.roster.served) came gone

-- the indices of what was out with a consumer that left
abbrev pub ended_indices : Option ConsumerRow → List Index
ended_indices None = []
ended_indices (Some row) = map numbered_index row.out.items
