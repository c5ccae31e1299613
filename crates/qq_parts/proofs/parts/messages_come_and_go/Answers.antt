use Rattle.qq_parts.proofs.Moving.{arrives, first-taken, may_leave}
use Rattle.qq_parts.proofs.parts.messages_come_and_go.Goals as goal

pub returns : goal.returns
returns c = record { arrives = arrives; taken = first-taken; leaves = may_leave }
