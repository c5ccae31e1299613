use Rattle.std.proofs.Common.{◌≡◌, ◌<◌, length, Some, None, refl, ap, subst, sym, ◌∙◌}
use Rattle.std.specs.Prelude.{slice_get}
use Rattle.std.proofs.lemmas.Option.{slice_get_read}
use Rattle.qq_group.specs.Group.{IsLeft, IsReturned, IsServed, server_by}
use Rattle.qq_group.specs.Handing.{count_by, next_by, returned_at}
use Rattle.qq_group.proofs.Seats.{left-at, returned-at, set-own, sound-put}
use Rattle.qq_group.proofs.group.Group.next_change.Goals as goal

pub next_change-requires-clause-some : goal.next_change-requires-clause-some
next_change-requires-clause-some g c =
    let seats = c.args.self.now.seats.items in
    let k = c.args.node.0 in
    let there : slice_get seats k ≡ Some c.in-Some.seat.now =
    slice_get_read seats (length seats) k c.in-Some.seat.now refl c.requires.there c.in-Some.ensures.value in
    subst (λ o. 0 < count_by (server_by o)) there c.requires.some

pub next_change-requires-clause-served : goal.next_change-requires-clause-served
next_change-requires-clause-served g c =
    let seats = c.args.self.now.seats.items in
    let k = c.args.node.0 in
    let there : slice_get seats k ≡ Some c.in-Some.seat.now =
    slice_get_read seats (length seats) k c.in-Some.seat.now refl c.requires.there c.in-Some.ensures.value in
    subst (λ o. IsServed g.Q.Queue.stands g.L.LogView.log g.Q.Queue.applied (server_by o)) there
    (c.requires.sound.servers k)

pub returns-clause-value : goal.returns-clause-value
returns-clause-value g c =
    let seats = c.args.self.now.seats.items in
    let k = c.args.node.0 in
    let there : slice_get seats k ≡ Some c.in-Some.seat.now =
    slice_get_read seats (length seats) k c.in-Some.seat.now refl c.requires.there c.in-Some.ensures.value in
    c.next_change.ensures.value ∙ ap (λ o. next_by g.L.LogView.log None (server_by o)) (sym there)

pub returns-clause-sound : goal.returns-clause-sound
returns-clause-sound g c =
    let seats = c.args.self.now.seats.items in
    let k = c.args.node.0 in
    let there : slice_get seats k ≡ Some c.in-Some.seat.now =
    slice_get_read seats (length seats) k c.in-Some.seat.now refl c.requires.there c.in-Some.ensures.value in
    sound-put g.Q.Queue.stands g.L.LogView.log g.Q.Queue.applied k c.next_change.new.self c.args.self.now _
    c.requires.there c.next_change.ensures.served
    (subst IsReturned (sym c.next_change.ensures.returned)
    (returned-at seats k c.in-Some.seat.now there c.requires.sound.returned))
    (subst (IsLeft g.L.LogView.log) (sym c.next_change.ensures.left)
    (left-at g.L.LogView.log seats k c.in-Some.seat.now there c.requires.sound.left)) refl c.requires.sound.bag refl
    c.requires.sound

pub returns-clause-returned : goal.returns-clause-returned
returns-clause-returned g c =
    let seats = c.args.self.now.seats.items in
    let k = c.args.node.0 in
    let there : slice_get seats k ≡ Some c.in-Some.seat.now =
    slice_get_read seats (length seats) k c.in-Some.seat.now refl c.requires.there c.in-Some.ensures.value in
    ap returned_at (set-own seats k c.next_change.new.self c.requires.there)
    ∙ c.next_change.ensures.returned
    ∙ sym (ap returned_at there)

pub returns-clause-out : goal.returns-clause-out
returns-clause-out g c = record {
  seat = c.in-Some.seat.now;
  now = c.next_change.new.self;
  changes = record {
    there = slice_get_read c.args.self.now.seats.items (length c.args.self.now.seats.items) c.args.node.0
        c.in-Some.seat.now refl c.requires.there c.in-Some.ensures.value;
    seats = refl;
    queue = refl;
    nodes = refl;
  };
  out = c.next_change.ensures.out;
  bag = refl;
  audit = refl;
}
