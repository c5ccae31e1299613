use Rattle.std.proofs.Common.{ℕ, length, refl, ap}
use Rattle.std.specs.Prelude.{slice_set}
use Rattle.std.proofs.lemmas.Option.{slice_get_read}
use Rattle.qq_group.specs.Restarts.{started_seat}
use Rattle.qq_group.specs.declared.seat.Seat.{Seat}
use Rattle.qq_group.proofs.Seats.{sound-put}
use Rattle.qq_group.proofs.group.Group.start.Goals as goal

pub returns-clause-started : goal.returns-clause-started
returns-clause-started g c = record {
  was = c.in-Some.seat.now;
  changes = record {
    there = slice_get_read c.args.self.now.seats.items (length c.args.self.now.seats.items) c.args.node.0
        c.in-Some.seat.now refl c.requires.there c.in-Some.ensures.value;
    seats = ap (λ (n : ℕ). slice_set c.args.self.now.seats.items c.args.node.0
        (started_seat n c.args.server c.in-Some.seat.now)) c.op-op.ensures;
    queue = refl;
    nodes = refl;
  };
  bag = refl;
  audit = refl;
}

pub returns-clause-sound : goal.returns-clause-sound
returns-clause-sound g c =
    let seat : Seat g.row.Q.Denot g.row.L.Denot = started_seat c.op-op.result c.args.server c.in-Some.seat.now in
    sound-put g.Q.Queue.stands g.L.LogView.log g.Q.Queue.applied c.args.node.0 seat c.args.self.now _ c.requires.there
    c.requires.server tt tt refl c.requires.sound.bag refl c.requires.sound
