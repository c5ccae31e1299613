use Rattle.std.proofs.Common.{sym, ap, ◌∙◌, refl}
use Rattle.std.specs.Prelude.{is_some}
use Rattle.std.proofs.lemmas.Bool.{false≢true}
use Rattle.qq_consumer.specs.declared.seat.Seat.{Seat}
use Rattle.qq_consumer.proofs.GoingBack.{free-absent, comes-in, served}
use Rattle.qq_consumer.proofs.seats.put_back.Goals as goal

pub shift_insert-requires-clause-below_len : goal.shift_insert-requires-clause-below_len
shift_insert-requires-clause-below_len c has =
    absurd (false≢true (sym (ap is_some (free-absent c.args.seat.base.id c.args.rows.now.entries c.requires.base c.requires.free))
    ∙ has))

pub returns-clause-entries : goal.returns-clause-entries
returns-clause-entries c =
    let back : Seat = record {
      row = record { consumer = c.args.seat.base; out = c.undo.new.self };
      base = c.args.seat.base;
    } in (
      back,
      record {
        entries =
            c.in-Ok.ensures.entries
            ∙ comes-in c.args.rows.now c.args.seat.base.id back c.args.place
            (free-absent c.args.seat.base.id c.args.rows.now.entries c.requires.base c.requires.free);
        base = refl;
        base_same = ap (served c.args.seat.base) c.undo.ensures.base;
        consumer = refl;
        items = c.undo.ensures.items;
        out = c.undo.ensures.base;
      },
    )
