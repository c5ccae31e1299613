use Rattle.std.proofs.Common.{◌≡◌, ◌∙◌, true, false, List, ap, sym, subst}
use Rattle.qq_entry.specs.declared.command.Entry.{Entry}
use Rattle.qq_log.specs.declared.op.Op.{Op}
use Rattle.qq_log.specs.declared.op.Op.TheVariants.{Change}
use Rattle.qq_wal_chain.specs.Lanes.{is_op_within_ends}
use Rattle.qq_recover.specs.State.{state_with_op}
use Rattle.qq_recover.proofs.States.{change-outside}
use Rattle.qq_recover.proofs.state.state_with_op.Goals as goal

pub changed-requires-clause-within : goal.changed-requires-clause-within
changed-requires-clause-within c = λ queue.
    subst (λ (entries : List Entry). is_op_within_ends (Change queue c.in-Change.op c.in-Change.term c.in-Change.vote
    c.in-Change.keep entries) ≡ true) c.as_slice.ensures
    (sym (c.is_change_within_ends.ensures queue c.in-Change.vote) ∙ c.if-is_change_within_ends.true)

pub returns-in-Change-clause-ok : goal.returns-in-Change-clause-ok
returns-in-Change-clause-ok c =
    sym (ap (λ (op : Op). state_with_op c.args.state op) c.in-Change.is
    ∙ change-outside c.args.state c.in-Change.queue c.in-Change.op c.in-Change.term c.in-Change.vote c.in-Change.keep
    c.in-Change.entries
    (subst (λ (entries : List Entry). is_op_within_ends (Change c.in-Change.queue c.in-Change.op c.in-Change.term
    c.in-Change.vote c.in-Change.keep entries) ≡ false) c.as_slice.ensures
    (sym (c.is_change_within_ends.ensures c.in-Change.queue c.in-Change.vote) ∙ c.if-is_change_within_ends.false)))
