use Rattle.qq_live.proofs.Changes.{loses-set}
use Rattle.qq_live.proofs.slot.remove_holder.Goals as goal

pub returns-clause-loses : goal.returns-clause-loses
returns-clause-loses c =
    loses-set c.args.index c.args.place c.args.holders c.args.slots.now.items c.put_at.new.slots.items c.requires.slots
    c.requires.place c.requires.there c.requires.held c.put_at.ensures.items
