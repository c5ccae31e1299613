use Rattle.std.proofs.Common.{◌≡◌, length, Some, None, refl, ap, subst, sym, ◌∙◌}
use Rattle.std.specs.Prelude.{is_some, slice_get}
use Rattle.std.proofs.lemmas.Option.{slice_get_read}
use Rattle.std.specs.Prelude.{is_ok, if◌then◌else◌}
use Rattle.std.proofs.lemmas.Result.{IfOk-weaker, on_err_weaker}
use Rattle.qq_group.specs.Group.{IsLeft, IsReturned, IsServed, server_by}
use Rattle.qq_group.specs.Handing.{count_by, returned_at, waiting_at, IsHandedOut}
use Rattle.qq_group.proofs.Returning.{may-return, returned-there}
use Rattle.qq_group.proofs.Seats.{left-at, returned-at, set-own, sound-put}
use Rattle.qq_group.proofs.group.Group.take_waiting.Goals as goal

pub take_ops-requires-clause-up : goal.take_ops-requires-clause-up
take_ops-requires-clause-up g c =
    let seats = c.args.self.now.seats.items in
    let k = c.args.node.0 in
    let there : slice_get seats k ≡ Some c.in-Some.seat.now =
    slice_get_read seats (length seats) k c.in-Some.seat.now refl c.requires.there c.in-Some.ensures.value in
    sym (ap (λ o. is_some (server_by o)) there) ∙ c.requires.up

pub take_ops-requires-clause-served : goal.take_ops-requires-clause-served
take_ops-requires-clause-served g c =
    let seats = c.args.self.now.seats.items in
    let k = c.args.node.0 in
    let there : slice_get seats k ≡ Some c.in-Some.seat.now =
    slice_get_read seats (length seats) k c.in-Some.seat.now refl c.requires.there c.in-Some.ensures.value in
    subst (λ o. IsServed g.Q.Queue.stands g.L.LogView.log g.Q.Queue.applied (server_by o)) there
    (c.requires.sound.servers k)

pub take_ops-requires-clause-returned : goal.take_ops-requires-clause-returned
take_ops-requires-clause-returned g c =
    let seats = c.args.self.now.seats.items in
    let k = c.args.node.0 in
    let there : slice_get seats k ≡ Some c.in-Some.seat.now =
    slice_get_read seats (length seats) k c.in-Some.seat.now refl c.requires.there c.in-Some.ensures.value in
    returned-at seats k c.in-Some.seat.now there c.requires.sound.returned

pub returns-clause-sound : goal.returns-clause-sound
returns-clause-sound g c =
    let seats = c.args.self.now.seats.items in
    let k = c.args.node.0 in
    let there : slice_get seats k ≡ Some c.in-Some.seat.now =
    slice_get_read seats (length seats) k c.in-Some.seat.now refl c.requires.there c.in-Some.ensures.value in
    sound-put g.Q.Queue.stands g.L.LogView.log g.Q.Queue.applied k c.take_ops.new.self c.args.self.now _ c.requires.there
    c.take_ops.ensures.served
    (subst IsReturned (sym c.take_ops.ensures.returned)
    (may-return (is_ok c.take_ops.result) c.in-Some.seat.now.returned
    (returned-at seats k c.in-Some.seat.now there c.requires.sound.returned)))
    (subst (IsLeft g.L.LogView.log) (sym c.take_ops.ensures.left)
    (left-at g.L.LogView.log seats k c.in-Some.seat.now there c.requires.sound.left)) refl c.requires.sound.bag refl
    c.requires.sound

pub returns-clause-value : goal.returns-clause-value
returns-clause-value g c =
    let seats = c.args.self.now.seats.items in
    let k = c.args.node.0 in
    let there : slice_get seats k ≡ Some c.in-Some.seat.now =
    slice_get_read seats (length seats) k c.in-Some.seat.now refl c.requires.there c.in-Some.ensures.value in
    IfOk-weaker c.take_ops.result (λ ops. ops.items ≡ waiting_at (Some c.in-Some.seat.now))
    (λ ops. ops.items ≡ waiting_at (slice_get seats k)) (λ ops is. is ∙ ap waiting_at (sym there)) c.take_ops.ensures.value

pub returns-clause-returned : goal.returns-clause-returned
returns-clause-returned g c =
    let seats = c.args.self.now.seats.items in
    let k = c.args.node.0 in
    let there : slice_get seats k ≡ Some c.in-Some.seat.now =
    slice_get_read seats (length seats) k c.in-Some.seat.now refl c.requires.there c.in-Some.ensures.value in
    ap returned_at (set-own seats k c.take_ops.new.self c.requires.there)
    ∙ c.take_ops.ensures.returned
    ∙ ap (λ o. if is_ok c.take_ops.result then None else returned_at o) (sym there)

pub returns-clause-out : goal.returns-clause-out
returns-clause-out g c = record {
  seat = c.in-Some.seat.now;
  now = c.take_ops.new.self;
  changes = record {
    there = slice_get_read c.args.self.now.seats.items (length c.args.self.now.seats.items) c.args.node.0
        c.in-Some.seat.now refl c.requires.there c.in-Some.ensures.value;
    seats = refl;
    queue = refl;
    nodes = refl;
  };
  out = subst (λ o. IsHandedOut (if is_ok c.take_ops.result then count_by (server_by o) else 0) c.in-Some.seat.now
      c.take_ops.new.self)
      (sym (slice_get_read c.args.self.now.seats.items (length c.args.self.now.seats.items) c.args.node.0
      c.in-Some.seat.now refl c.requires.there c.in-Some.ensures.value)) c.take_ops.ensures.out;
  bag = refl;
  audit = refl;
}

pub returns-clause-cause : goal.returns-clause-cause
returns-clause-cause g c =
    let seats = c.args.self.now.seats.items in
    let k = c.args.node.0 in
    let there : slice_get seats k ≡ Some c.in-Some.seat.now =
    slice_get_read seats (length seats) k c.in-Some.seat.now refl c.requires.there c.in-Some.ensures.value in
    on_err_weaker c.take_ops.result (λ some. returned-there (slice_get seats k) c.in-Some.seat.now there
    (sym (ap (λ o. is_some (server_by o)) there) ∙ c.requires.up) some) c.take_ops.ensures.cause
