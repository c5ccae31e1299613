use Rattle.std.proofs.Common.{◌≡◌, ◌∙◌, ◌+◌, ◌++◌, List, take, Some, None, ap, sym, subst, arith}
use Rattle.qq_entry.specs.declared.command.Entry.{Entry}
use Rattle.qq_log.specs.declared.op.Op.TheVariants.{Change}
use Rattle.qq_log.specs.Stable.{Stable}
use Rattle.qq_recover.specs.State.{known_state, IsCarried, state_with_op}
use Rattle.qq_recover.proofs.States.{change-fits, change-short, change-carried}
use Rattle.qq_recover.proofs.state.State.change.Goals as goal

pub returns-then-keep-len-clause-ok : goal.returns-then-keep-len-clause-ok
returns-then-keep-len-clause-ok c = λ queue.
    let next = c.requires.next ∙ ap (λ (s : Stable). s.op + 1) (sym c.self.view_is) in
    sym (subst (λ (s : Stable). state_with_op (Some s) (Change queue c.args.op c.args.term c.args.vote c.args.keep
    c.args.entries) ≡ None) c.self.view_is
    (change-short c.self.inside.op c.self.inside.term c.self.inside.vote c.self.inside.base c.self.inside.snapshot
    c.self.inside.entries.items c.self.invariant queue c.args.op c.args.term c.args.vote c.args.keep c.args.entries
    next (c.requires.within queue) (omega (arith, c.len.ensures))))

pub invariant_of-result : goal.invariant_of-result
invariant_of-result c =
    let next = c.requires.next ∙ ap (λ (s : Stable). s.op + 1) (sym c.self.view_is) in
    let is : c.append.new.self.items ≡ take c.args.keep.0 c.self.inside.entries.items ++ c.args.entries =
    c.in_ok-append.ensures.items ∙ (λ i. c.truncate.ensures.items i ++ c.into_vec-added.ensures i) in
    subst (λ (log : List Entry). IsCarried (known_state c.args.op c.args.term c.args.vote c.self.inside.base
    c.self.inside.snapshot log)) (sym is)
    (change-carried c.self.inside.op c.self.inside.term c.self.inside.vote c.self.inside.base c.self.inside.snapshot
    c.self.inside.entries.items c.self.invariant (record { 0 = 0 }) c.args.op c.args.term c.args.vote c.args.keep
    c.args.entries next (c.requires.within (record { 0 = 0 })) c.requires.writable c.requires.entries (omega (arith, c.len.ensures)))

pub returns-clause-ok : goal.returns-clause-ok
returns-clause-ok c = λ queue.
    let next = c.requires.next ∙ ap (λ (s : Stable). s.op + 1) (sym c.self.view_is) in
    let is : c.append.new.self.items ≡ take c.args.keep.0 c.self.inside.entries.items ++ c.args.entries =
    c.in_ok-append.ensures.items ∙ (λ i. c.truncate.ensures.items i ++ c.into_vec-added.ensures i) in
    sym (subst (λ (s : Stable). state_with_op (Some s) (Change queue c.args.op c.args.term c.args.vote c.args.keep
    c.args.entries) ≡ Some (known_state c.args.op c.args.term c.args.vote c.self.inside.base c.self.inside.snapshot
    (take c.args.keep.0 c.self.inside.entries.items ++ c.args.entries))) c.self.view_is
    (change-fits c.self.inside.op c.self.inside.term c.self.inside.vote c.self.inside.base c.self.inside.snapshot
    c.self.inside.entries.items c.self.invariant queue c.args.op c.args.term c.args.vote c.args.keep c.args.entries
    next (c.requires.within queue) (omega (arith, c.len.ensures)))
    ∙ ap (λ (log : List Entry). Some (known_state c.args.op c.args.term c.args.vote c.self.inside.base
    c.self.inside.snapshot log)) (sym is))
