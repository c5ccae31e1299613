use Rattle.std.proofs.Common.{◌≡◌, [], ◌∷◌, ◌++◌, List, sym, ap, ◌∙◌, subst, arith}
use Rattle.std.specs.Map.{lookup}
use Rattle.indexmap.specs.IndexMap.{spare}
use Rattle.indexmap.proofs.CallerLemmas.{insert_entry-new}
use Rattle.qq_base.specs.Ids.{same_consumer}
use Rattle.qq_consumer.specs.declared.step.Step.{Step}
use Rattle.qq_consumer.specs.declared.step.Step.TheVariants as step
use Rattle.qq_consumer.specs.Roster.{served_of, is_there}
use Rattle.qq_consumer.specs.Joined.{JoinedState, Entry, CanGoBack, bases_of, base_one, undone}
use Rattle.qq_consumer.proofs.JoinedRows.{absent-free}
use Rattle.qq_consumer.proofs.GoingBack.{joining, joins-ones, joins-base, joins-back}
use Rattle.qq_consumer.proofs.joined.Joined.push.Goals as goal
use Rattle.qq_consumer.proofs.joined.Joined.push.Goals.{After-push_front_reserved}

-- the row goes last
entries-are : (c : After-push_front_reserved)
    → c.insert.new.self.entries ≡ c.self.inside.rows.entries ++ joining c.args.row c.commit.new.self ∷ []
entries-are c =
    c.in_ok-insert.ensures.entries
    ∙ insert_entry-new same_consumer c.make_room.new.rows c.args.row.consumer.id (joining c.args.row c.commit.new.self).1
    (ap (lookup (same_consumer c.args.row.consumer.id)) c.make_room.ensures.entries
    ∙ absent-free c.args.row.consumer.id c.self.inside.rows.entries c.self.invariant.joined.ids
    (ap (λ (j : JoinedState). is_there c.args.row.consumer.id j.served) c.self.view_is ∙ c.requires.free))
    ∙ ap (λ (es : List Entry). es ++ joining c.args.row c.commit.new.self ∷ []) c.make_room.ensures.entries

journal-is : (c : After-push_front_reserved)
    → c.push_front_reserved.new.self.items ≡ step.Joined ∷ c.self.inside.journal.items
journal-is c =
    c.push_front_reserved.ensures.items ∙ ap (λ (js : List Step). step.Joined ∷ js) c.make_room.ensures.steps

pub invariant_of-self-2 : goal.invariant_of-self-2
invariant_of-self-2 c =
    subst (λ (js : List Step). CanGoBack c.insert.new.self.entries js c.self.inside.touched.items (spare c.insert.new.self))
    (sym (journal-is c))
    (joins-back c.self.inside.rows.entries c.args.row c.commit.new.self c.commit.ensures.items c.commit.ensures.base
    c.insert.new.self.entries c.self.inside.journal.items c.self.inside.touched.items _ _ (entries-are c)
    c.insert.ensures.unique c.requires.given (omega (arith, c.in_default.ensures.room, c.in_ok-insert.ensures.spare))
    c.self.invariant)

pub returns-clause-ok : goal.returns-clause-ok
returns-clause-ok c =
    joins-ones c.self.inside.rows.entries c.args.row c.commit.new.self c.commit.ensures.items c.commit.ensures.base
    c.insert.new.self.entries (entries-are c)
    ∙ ap (λ (j : JoinedState). j.served ++ served_of c.args.row ∷ []) c.self.view_is

pub returns-clause-base : goal.returns-clause-base
returns-clause-base c =
    ap (λ (js : List Step). undone base_one js (bases_of c.insert.new.self.entries)) (journal-is c)
    ∙ joins-base c.self.inside.rows.entries c.args.row c.commit.new.self c.commit.ensures.items c.commit.ensures.base
    c.insert.new.self.entries c.self.inside.journal.items (entries-are c)
    ∙ ap (λ (j : JoinedState). j.base) c.self.view_is
