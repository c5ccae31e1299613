use Rattle.std.proofs.Common.{◌≡◌, ◌∙◌, true, refl, ap, sym, subst, rules}
use Rattle.qq_log.specs.declared.lane.Carry.{Carry}
use Rattle.qq_log.specs.Stable.{carry_of}
use Rattle.qq_log.specs.Writable.{IsWritableCarry}
use Rattle.qq_recover.specs.State.{known_state}
use Rattle.qq_wal_chain.specs.Lanes.{is_carry_within_ends, is_plain}
use Rattle.qq_recover.proofs.States.{carry-is, carry-writable}
use Rattle.qq_recover.proofs.state.State.carry.Goals as goal

pub returns-clause-carry : goal.returns-clause-carry
returns-clause-carry c =
    carry-is c.self.inside.op c.self.inside.term c.self.inside.vote c.self.inside.base c.self.inside.snapshot
    c.self.inside.entries.items c.self.invariant c.args.queue c.new.result c.len.result c.new.ensures (search rules)
    ∙ ap (carry_of c.args.queue) c.self.view_is

pub returns-clause-within : goal.returns-clause-within
returns-clause-within c =
    subst (λ (x : Carry). is_carry_within_ends x ≡ true)
    (sym (carry-is c.self.inside.op c.self.inside.term c.self.inside.vote c.self.inside.base c.self.inside.snapshot
    c.self.inside.entries.items c.self.invariant c.args.queue c.new.result c.len.result c.new.ensures (search rules)))
    (c.self.invariant.within c.args.queue)

pub returns-clause-plain : goal.returns-clause-plain
returns-clause-plain c =
    subst (λ (x : Carry). is_plain x ≡ true)
    (sym (carry-is c.self.inside.op c.self.inside.term c.self.inside.vote c.self.inside.base c.self.inside.snapshot
    c.self.inside.entries.items c.self.invariant c.args.queue c.new.result c.len.result c.new.ensures (search rules)))
    (c.self.invariant.plain c.args.queue)

pub returns-clause-writable : goal.returns-clause-writable
returns-clause-writable c =
    subst (λ (x : Carry). IsWritableCarry x)
    (sym (carry-is c.self.inside.op c.self.inside.term c.self.inside.vote c.self.inside.base c.self.inside.snapshot
    c.self.inside.entries.items c.self.invariant c.args.queue c.new.result c.len.result c.new.ensures (search rules)))
    (carry-writable (known_state c.self.inside.op c.self.inside.term c.self.inside.vote c.self.inside.base
    c.self.inside.snapshot c.self.inside.entries.items) c.args.queue (search rules) c.self.invariant refl)
