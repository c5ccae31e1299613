use Rattle.std.proofs.Common.{◌∙◌, List, Some, ap, sym, subst}
use Rattle.qq_entry.specs.declared.command.Entry.{Entry}
use Rattle.qq_recover.specs.State.{known_state, IsCarried}
use Rattle.qq_recover.proofs.States.{first-fits, first-carried}
use Rattle.qq_recover.proofs.state.State.of_carry.Goals as goal

pub returns : goal.returns
returns c =
    first-fits c.args.carry.now c.requires.may c.requires.empty
    ∙ ap (λ (entries : List Entry). Some (known_state c.args.carry.now.op c.args.carry.now.term
    c.args.carry.now.vote c.args.carry.now.base c.args.carry.now.snapshot entries)) (sym c.new.ensures.items)

pub invariant_of-result : goal.invariant_of-result
invariant_of-result c =
    subst (λ (entries : List Entry). IsCarried (known_state c.args.carry.now.op c.args.carry.now.term
    c.args.carry.now.vote c.args.carry.now.base c.args.carry.now.snapshot entries)) (sym c.new.ensures.items)
    (first-carried c.args.carry.now c.requires.may c.requires.writable c.requires.empty)
