use Rattle.std.proofs.Common.{List, Option, refl, sym, ap, subst, ◌∙◌}
use Rattle.qq_raft_msg.specs.Bag.{at_place, HasCopyCause}
use Rattle.qq_raft_msg.specs.declared.rpc.Rpc.{Rpc}
use Rattle.qq_group.specs.Events.{with_copy}
use Rattle.qq_group.proofs.Travel.{copied, copy-added, nothing-copied}
use Rattle.qq_group.proofs.group.Group.copy.Goals as goal

pub returns-in-Ok-clause-ok : goal.returns-in-Ok-clause-ok
returns-in-Ok-clause-ok g c =
    copied g.L.LogView.log c.args.place c.args.self.now (record c.args.self.now { bag = c.copy.new.self }) refl
    c.in-Ok.ensures.ok

pub returns-in-Err-NoSuch-clause-ok : goal.returns-in-Err-NoSuch-clause-ok
returns-in-Err-NoSuch-clause-ok g c =
    let old = c.args.self.now in
    nothing-copied g.L.LogView.log c.args.place old (record old { bag = c.copy.new.self })
    (subst (HasCopyCause c.args.place old.bag) c.in-Err-NoSuch.field-0-is c.in-Err-NoSuch.ensures.cause)
    (ap (λ (bag : List Rpc). record old { bag = bag }) c.in-Err-NoSuch.ensures.err)

pub returns-in-Ok-clause-adds : goal.returns-in-Ok-clause-adds
returns-in-Ok-clause-adds g c =
    let bag = c.args.self.now.bag in
    record { bag_is = copy-added (at_place c.args.place bag) bag c.copy.new.self c.in-Ok.ensures.ok; audit_is = refl }

pub returns-in-Err-NoSuch-clause-adds : goal.returns-in-Err-NoSuch-clause-adds
returns-in-Err-NoSuch-clause-adds g c =
    let bag = c.args.self.now.bag in
    let none = subst (HasCopyCause c.args.place bag) c.in-Err-NoSuch.field-0-is c.in-Err-NoSuch.ensures.cause in
    record {
      bag_is = c.in-Err-NoSuch.ensures.err ∙ sym (ap (λ (o : Option Rpc). with_copy o bag) none);
      audit_is = refl;
    }
