use Rattle.std.proofs.Common.{subst, arith}
use Rattle.qq_command.specs.Reading.{Gives}
use Rattle.qq_raft_msg.proofs.RpcLaws.{is_found, is_within, message_again}
use Rattle.qq_raft_msg.proofs.reading.decode.Goals as goal

pub returns-clause-found : goal.returns-clause-found
returns-clause-found c =
    is_found c.args.bytes.now c.message_at.result (λ i. omega (arith, c.type_inv.bytes i)) c.message_at.ensures

pub returns-clause-only : goal.returns-clause-only
returns-clause-only c = λ r rest w e.
    subst (λ f. Gives (λ x. x) c.message_at.result f)
    (message_again r c.args.bytes.now rest e w) c.message_at.ensures

pub returns-clause-within : goal.returns-clause-within
returns-clause-within c = is_within c.args.bytes.now c.message_at.result (returns-clause-found c)
