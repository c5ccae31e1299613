use Rattle.std.proofs.Common.{subst, arith}
use Rattle.qq_command.specs.Reading.{Gives}
use Rattle.qq_command.proofs.EntryLaws.{is_entry_prefix, is_within, entry_again}
use Rattle.qq_command.proofs.reading.decode.Goals as goal

pub returns-clause-found : goal.returns-clause-found
returns-clause-found c =
    is_entry_prefix c.args.bytes.now c.entry_at.result (λ i. omega (arith, c.type_inv.bytes i)) c.entry_at.ensures

pub returns-clause-only : goal.returns-clause-only
returns-clause-only c =
    λ e rest fits is. subst (λ f. Gives (λ x. x) c.entry_at.result f) (entry_again e c.args.bytes.now rest is fits)
    c.entry_at.ensures

pub returns-clause-within : goal.returns-clause-within
returns-clause-within c = is_within c.args.bytes.now c.entry_at.result (returns-clause-found c)
