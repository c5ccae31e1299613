use Rattle.std.proofs.Common.{inl, inr, sym}
use Rattle.qq_doctor.proofs.Differing.{by-entry, by-term}
use Rattle.qq_doctor.proofs.lanes.differ.Goals as goal

pub returns-in_default : goal.returns-in_default
returns-in_default c =
    by-term c.args.place c.args.a.now c.args.b.now c.args.s c.args.t (inl (sym c.in_default.ensures)) c.requires.a
    c.requires.b

pub returns-in_default-entry_at : goal.returns-in_default-entry_at
returns-in_default-entry_at c =
    by-term c.args.place c.args.a.now c.args.b.now c.args.s c.args.t (inr (sym c.in_default-entry_at.ensures))
    c.requires.a c.requires.b

pub returns : goal.returns
returns c =
    by-entry c.args.place c.args.a.now c.args.b.now c.in-Some.own.now c.in-Some-entry_at.other.now c.same_entry.result
    (sym c.in-Some.ensures) (sym c.in-Some-entry_at.ensures) c.same_entry.ensures.exact
