use Rattle.std.proofs.Common.{◌≡◌, length, Some, refl, ap, subst, sym, ◌∙◌}
use Rattle.std.specs.Prelude.{is_some, slice_get}
use Rattle.std.proofs.lemmas.Option.{slice_get_read}
use Rattle.qq_group.specs.Group.{IsServed, server_by}
use Rattle.qq_group.proofs.Seats.{returned-at, sound-put}
use Rattle.qq_group.proofs.Stepped.{left-dropped}
use Rattle.qq_group.specs.Group.{IsReturned}
use Rattle.qq_group.proofs.group.Group.crash_seat.Goals as goal

pub crash-requires : goal.crash-requires
crash-requires g c =
    let seats = c.args.self.now.seats.items in
    let k = c.args.node.0 in
    let there : slice_get seats k ≡ Some c.in-Some.seat.now =
    slice_get_read seats (length seats) k c.in-Some.seat.now refl c.requires.there c.in-Some.ensures.value in
    sym (ap (λ o. is_some (server_by o)) there) ∙ c.requires.up

pub returns-clause-dropped : goal.returns-clause-dropped
returns-clause-dropped g c = record {
  seat = c.in-Some.seat.now;
  now = c.crash.new.self;
  changes = record {
    there = slice_get_read c.args.self.now.seats.items (length c.args.self.now.seats.items) c.args.node.0
        c.in-Some.seat.now refl c.requires.there c.in-Some.ensures.value;
    seats = refl;
    queue = refl;
    nodes = refl;
  };
  dropped = c.crash.ensures.dropped;
  bag = refl;
  audit = refl;
}

pub returns-clause-sound : goal.returns-clause-sound
returns-clause-sound g c =
    let seats = c.args.self.now.seats.items in
    let k = c.args.node.0 in
    let there : slice_get seats k ≡ Some c.in-Some.seat.now =
    slice_get_read seats (length seats) k c.in-Some.seat.now refl c.requires.there c.in-Some.ensures.value in
    let stands = g.Q.Queue.stands in
    let log = g.L.LogView.log in
    let d = c.crash.ensures.dropped in
    let serving = subst (IsServed stands log g.Q.Queue.applied) d.up
    (subst (λ o. IsServed stands log g.Q.Queue.applied (server_by o)) there (c.requires.sound.servers k)) in
    sound-put stands log g.Q.Queue.applied k c.crash.new.self c.args.self.now _ c.requires.there
    (subst (IsServed stands log g.Q.Queue.applied) (sym (ap (λ x. x.server) d.leaves.seat)) tt)
    (subst IsReturned (sym (ap (λ x. x.returned) d.leaves.seat))
    (returned-at seats k c.in-Some.seat.now there c.requires.sound.returned))
    (left-dropped log c.in-Some.seat.now c.crash.new.self d serving.sound.raft.undos serving.sound.raft.whole) refl
    c.requires.sound.bag refl c.requires.sound
