use Rattle.std.proofs.Common.{sym, ◌∙◌}
use Rattle.qq_agree.proofs.Walks.{common-differs, common-ended, common-more}
use Rattle.qq_agree.proofs.matching.common.Goals as goal

pub returns-in_default-entry : goal.returns-in_default-entry
returns-in_default-entry g c =
    common-ended (g.H.Holder.lane c.args.holder.now c.args.a.0).log (g.H.Holder.lane c.args.holder.now c.args.b.0).log
    c.entries.place (sym c.in_default-entry.ensures) c.entries.invariant

pub returns-then-not-same_entry : goal.returns-then-not-same_entry
returns-then-not-same_entry g c =
    common-differs (g.H.Holder.lane c.args.holder.now c.args.a.0).log
    (g.H.Holder.lane c.args.holder.now c.args.b.0).log c.entries.place c.in-Some.own.now c.in-Some-entry.other.now
    (sym c.in-Some.ensures) (sym c.in-Some-entry.ensures) (sym c.same_entry.ensures.test ∙ c.if-not-same_entry.true)
    c.entries.invariant

pub entries-preserved : goal.entries-preserved
entries-preserved g c =
    common-more (g.H.Holder.lane c.args.holder.now c.args.a.0).log (g.H.Holder.lane c.args.holder.now c.args.b.0).log
    c.entries.place c.in-Some.own.now c.in-Some-entry.other.now (sym c.in-Some.ensures) (sym c.in-Some-entry.ensures)
    (sym c.same_entry.ensures.test ∙ c.if-not-same_entry.false) c.entries.invariant
