use Rattle.std.proofs.Common.{refl, sym, Some, ◌∙◌}
use Rattle.std.specs.Prelude.{slice_get}
use Rattle.qq_group.specs.Handing.{takes_back}
use Rattle.qq_group.proofs.Returning.{given}
use Rattle.qq_group.proofs.Seats.{there-of}
use Rattle.qq_group.proofs.Taking.{refilled}
use Rattle.qq_group.proofs.group.Group.give_back.Goals as goal

pub refill-requires-clause-there : goal.refill-requires-clause-there
refill-requires-clause-there g c =
    there-of c.args.self.now.seats.items c.args.node.0 takes_back refl (sym c.if-not-takes_back.ensures)

pub returns-clause-made : goal.returns-clause-made
returns-clause-made g c =
    refilled g.L.LogView.log c.args.node.0 (Some c.args.op) c.args.self.now c.refill.new.self c.refill.ensures.refills

pub returns-clause-last : goal.returns-clause-last
returns-clause-last g c = λ last.
    let seat = slice_get c.args.self.now.seats.items c.args.node.0 in
    c.refill.ensures.refills.seat
    ∙ given (takes_back seat) c.args.op seat (sym c.if-not-takes_back.ensures)

pub returns-clause-other : goal.returns-clause-other
returns-clause-other g c = λ other. absurd (other (c.if-not-was_last.ensures.0 refl))
