use Rattle.qq_live.proofs.Changes.{IsFit, fits}
use Rattle.qq_live.proofs.live.fit.Goals as goal

fit : (c : goal.After-compact) → IsFit c.args.count c.args.slots.now.items c.compact.new.slots.items
fit c =
    fits c.args.count c.args.slots.now.items c.compact.new.slots.items c.requires.slots c.requires.count
    c.compact.ensures.items

pub returns-then-count-saturating_sub-clause-held : goal.returns-then-count-saturating_sub-clause-held
returns-then-count-saturating_sub-clause-held c = (fit c).held

pub returns-then-count-saturating_sub-clause-fronted : goal.returns-then-count-saturating_sub-clause-fronted
returns-then-count-saturating_sub-clause-fronted c = (fit c).fronted

pub returns-then-count-saturating_sub-clause-count : goal.returns-then-count-saturating_sub-clause-count
returns-then-count-saturating_sub-clause-count c = (fit c).own

pub returns-then-count-saturating_sub-clause-half : goal.returns-then-count-saturating_sub-clause-half
returns-then-count-saturating_sub-clause-half c = (fit c).half
