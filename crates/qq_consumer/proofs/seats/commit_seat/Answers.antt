use Rattle.qq_consumer.proofs.GoingBack.{absent-track, commit-ones, commit-joined, commit-track}
use Rattle.qq_consumer.proofs.seats.commit_seat.Goals as goal

pub returns-in_default-clause-tracked : goal.returns-in_default-clause-tracked
returns-in_default-clause-tracked c touched each =
    absent-track c.args.id c.args.rows.now c.get_mut.follows.lender-at-none c.requires c.get_mut.follows.holds-at-none
    c.in_default.ensures.value touched each

pub returns-clause-ones : goal.returns-clause-ones
returns-clause-ones c =
    commit-ones c.args.id c.args.rows.now _ c.requires c.in-Some.seat.now c.commit.new.self c.in-Some.ensures.value
    c.commit.ensures.items c.commit.ensures.base (c.get_mut.follows.holds _)

pub returns-clause-joined : goal.returns-clause-joined
returns-clause-joined c =
    commit-joined c.args.id c.args.rows.now _ c.requires c.in-Some.seat.now c.commit.new.self c.in-Some.ensures.value
    c.commit.ensures.items c.commit.ensures.base (c.get_mut.follows.holds _)

pub returns-clause-tracked : goal.returns-clause-tracked
returns-clause-tracked c touched each =
    commit-track c.args.id c.args.rows.now _ c.requires c.in-Some.seat.now c.commit.new.self c.in-Some.ensures.value
    c.commit.ensures.items c.commit.ensures.base (c.get_mut.follows.holds _) touched each
