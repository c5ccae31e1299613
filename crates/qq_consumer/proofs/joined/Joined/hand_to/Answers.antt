use Rattle.std.proofs.Common.{List, Option, IfSome, refl, sym, ap, ◌∙◌, subst}
use Rattle.std.proofs.lemmas.Result.{on_ok_weaker, on_err_weaker}
use Rattle.indexmap.specs.IndexMap.{spare}
use Rattle.qq_base.specs.declared.ids.ConsumerId.{ConsumerId}
use Rattle.qq_parts.specs.Parts.{Served}
use Rattle.qq_parts.specs.Outs.{hand_to}
use Rattle.qq_consumer.specs.declared.seat.Seat.{Seat}
use Rattle.qq_consumer.specs.Roster.{item_at, one_of, CanCount}
use Rattle.qq_consumer.specs.Joined.{JoinedState, CanGoBack, undone, base_one}
use Rattle.qq_consumer.proofs.JoinedRows.{absent-hands, found-one, found-given, write-hands, write-same, write-bases, write-back}
use Rattle.qq_consumer.proofs.GoingBack.{served}
use Rattle.qq_consumer.proofs.joined.Joined.hand_to.Goals as goal

pub returns-in_default-get_mut-clause-served : goal.returns-in_default-get_mut-clause-served
returns-in_default-get_mut-clause-served c place =
    absent-hands c.args.id c.self.inside.rows c.get_mut.follows.lender-at-none c.self.invariant.joined c.args.turn
    (item_at place c.args.message) c.get_mut.follows.holds-at-none c.in_default-get_mut.ensures.value
    ∙ ap (λ (j : JoinedState). hand_to c.args.turn (item_at place c.args.message) c.args.id j.served) c.self.view_is

pub serve_one-requires-clause-counts : goal.serve_one-requires-clause-counts
serve_one-requires-clause-counts c =
    subst (λ (o : Option Served). IfSome o (λ one. CanCount one.consumer))
    (found-one c.args.id c.self.inside.rows c.self.inside.rows c.self.invariant.joined c.in-Some.seat.now
    c.in-Some.ensures.value)
    (subst (λ (j : JoinedState). IfSome (one_of c.args.id j.served) (λ one. CanCount one.consumer)) (sym c.self.view_is)
    c.requires.counts)

pub serve_one-requires-clause-given : goal.serve_one-requires-clause-given
serve_one-requires-clause-given c =
    found-given c.args.id c.self.inside.rows.entries c.in-Some.seat.now c.self.invariant.joined.out
    (sym c.in-Some.ensures.value)

pub invariant_of-self-2 : goal.invariant_of-self-2
invariant_of-self-2 c =
    let seat : Seat = c.in-Some.seat.now in
    let w : Seat = record { row = c.serve_one.new.row; base = seat.base } in
    subst (λ (ts : List ConsumerId). CanGoBack (c.get_mut.follows.lender w).entries c.self.inside.journal.items ts
    (spare (c.get_mut.follows.lender w))) (sym c.in-Ok.ensures.items)
    (write-back c.args.id c.self.inside.rows (c.get_mut.follows.lender w) c.self.invariant.joined seat w
    c.in-Some.ensures.value (c.get_mut.follows.holds w) c.self.inside.journal.items c.self.inside.touched.items c.self.invariant
    c.serve_one.ensures.id (λ given. c.serve_one.ensures.given) refl c.serve_one.ensures.base)

pub returns-clause-served : goal.returns-clause-served
returns-clause-served c =
    let seat : Seat = c.in-Some.seat.now in
    let w : Seat = record { row = c.serve_one.new.row; base = seat.base } in
    on_ok_weaker c.serve_one.result (λ one place.
    write-hands c.args.id c.self.inside.rows (c.get_mut.follows.lender w) c.self.invariant.joined seat w
    c.in-Some.ensures.value (c.get_mut.follows.holds w) c.args.turn (item_at place c.args.message) (one place)
    ∙ ap (λ (j : JoinedState). hand_to c.args.turn (item_at place c.args.message) c.args.id j.served) c.self.view_is)
    c.serve_one.ensures.one

pub returns-clause-err : goal.returns-clause-err
returns-clause-err c =
    let seat : Seat = c.in-Some.seat.now in
    let w : Seat = record { row = c.serve_one.new.row; base = seat.base } in
    on_err_weaker c.serve_one.result (λ same.
    write-same c.args.id c.self.inside.rows (c.get_mut.follows.lender w) c.self.invariant.joined seat w
    c.in-Some.ensures.value (c.get_mut.follows.holds w) same
    ∙ ap (λ (j : JoinedState). j.served) c.self.view_is)
    c.serve_one.ensures.err

pub returns-clause-base : goal.returns-clause-base
returns-clause-base c =
    let seat : Seat = c.in-Some.seat.now in
    let w : Seat = record { row = c.serve_one.new.row; base = seat.base } in
    ap (undone base_one c.self.inside.journal.items)
    (write-bases c.args.id c.self.inside.rows (c.get_mut.follows.lender w) c.self.invariant.joined seat w
    c.in-Some.ensures.value (c.get_mut.follows.holds w) (ap (served seat.base) c.serve_one.ensures.base))
    ∙ ap (λ (j : JoinedState). j.base) c.self.view_is
