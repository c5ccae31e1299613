use Rattle.std.proofs.Common.{◌≡◌, length, refl, ap, subst, sym, ◌∙◌, Some}
use Rattle.std.specs.Prelude.{IfSome, slice_get}
use Rattle.std.proofs.lemmas.Option.{slice_get_read}
use Rattle.qq_log.specs.Writable.{MayWrite}
use Rattle.qq_group.specs.Group.{IsReturned, IsServed, server_by}
use Rattle.qq_group.specs.Handing.{returned_at}
use Rattle.qq_group.specs.declared.seat.Seat.{Seat}
use Rattle.qq_group.proofs.Returning.{may-write, refills}
use Rattle.qq_group.proofs.Seats.{left-at, returned-at, sound-put}
use Rattle.qq_group.proofs.group.Group.refill.Goals as goal

pub returns-clause-refills : goal.returns-clause-refills
returns-clause-refills g c =
    let seats = c.args.self.now.seats.items in
    refills c.args.node.0 c.args.returned c.replace.new.dest c.in-Some.seat.now c.args.self.now _ c.requires.there
    (slice_get_read seats (length seats) c.args.node.0 c.in-Some.seat.now refl c.requires.there c.in-Some.ensures.value)
    c.replace.ensures.after refl refl refl refl refl

pub returns-clause-sound : goal.returns-clause-sound
returns-clause-sound g c =
    let seats = c.args.self.now.seats.items in
    let k = c.args.node.0 in
    let there : slice_get seats k ≡ Some c.in-Some.seat.now =
    slice_get_read seats (length seats) k c.in-Some.seat.now refl c.requires.there c.in-Some.ensures.value in
    let seat : Seat g.row.Q.Denot g.row.L.Denot = record c.in-Some.seat.now { returned = c.replace.new.dest } in
    sound-put g.Q.Queue.stands g.L.LogView.log g.Q.Queue.applied k seat c.args.self.now _ c.requires.there
    (subst (λ o. IsServed g.Q.Queue.stands g.L.LogView.log g.Q.Queue.applied (server_by o)) there
    (c.requires.sound.servers k)) (subst IsReturned (sym c.replace.ensures.after) c.requires.returned)
    (left-at g.L.LogView.log seats k c.in-Some.seat.now there c.requires.sound.left) refl c.requires.sound.bag refl
    c.requires.sound

pub returns-clause-value : goal.returns-clause-value
returns-clause-value g c =
    let seats = c.args.self.now.seats.items in
    c.replace.ensures.value
    ∙ sym (ap returned_at
    (slice_get_read seats (length seats) c.args.node.0 c.in-Some.seat.now refl c.requires.there
    c.in-Some.ensures.value))

pub returns-clause-may : goal.returns-clause-may
returns-clause-may g c =
    let seats = c.args.self.now.seats.items in
    let there = slice_get_read seats (length seats) c.args.node.0 c.in-Some.seat.now refl c.requires.there
    c.in-Some.ensures.value in
    subst (λ o. IfSome o MayWrite) (sym c.replace.ensures.value)
    (may-write c.in-Some.seat.now.returned
    (returned-at seats c.args.node.0 c.in-Some.seat.now there c.requires.sound.returned))
