use Rattle.std.proofs.Common.{rules, arith, ◌<◌, length}
use Rattle.std.specs.Io.KnownBytes.{IsAtEnd}
use Rattle.std.proofs.lemmas.Bool.Decides.{nat_tests}
use Rattle.std.proofs.lemmas.Result.{err_from_is_err_and}
use Rattle.qq_ports.specs.Lines.{ahead}
use Rattle.qq_ports.proofs.Pieces.{given_up, takes_fed, takes_more, takes_last, loses_pending}
use Rattle.qq_ports.proofs.lines.chunk_line.Goals as goal

pub returns-in_err-take_piece-clause-cause : goal.returns-in_err-take_piece-clause-cause
returns-in_err-take_piece-clause-cause g c =
    let p = err_from_is_err_and c.from_residual-in_err-take_piece.result c.from_residual-in_err-take_piece.ensures.1
    in
    let before = ahead c.args.lines.now (g.I.Source.left c.args.input.now) in
    let start = ahead c.pieces.lines (g.I.Source.left c.pieces.input) in
    let left = g.I.Source.left c.has_more.new.input in
    rw (p.1, p.2) (given_up _ before start left _ c.pieces.raw.items c.has_more.new.self _
    c.pieces.invariant.read c.in_ok-has_more.ensures.ok (c.in_err-take_piece.ensures.cause c.pieces.invariant.clean))

pub returns-then-branch-2-clause-line : goal.returns-then-branch-2-clause-line
returns-then-branch-2-clause-line g c =
    let before = ahead c.args.lines.now (g.I.Source.left c.args.input.now) in
    let start = ahead c.pieces.lines (g.I.Source.left c.pieces.input) in
    let left = g.I.Source.left c.has_more.new.input in
    rw (c.from_vec.ensures, c.without_return.ensures)
    (takes_fed before start left c.in_ok-take_piece.field-0 c.has_more.new.self c.take_piece.new.self
    c.pieces.raw.items c.take_piece.new.raw.items c.if-branch-2.true c.in_ok-take_piece.ensures.ok
    c.pieces.invariant.read c.in_ok-has_more.ensures.ok c.pieces.invariant.clean c.in_ok-take_piece.ensures.fits)

pub pieces-preserved : goal.pieces-preserved
pieces-preserved g c =
    let before = ahead c.args.lines.now (g.I.Source.left c.args.input.now) in
    let start = ahead c.pieces.lines (g.I.Source.left c.pieces.input) in
    let left = g.I.Source.left c.has_more.new.input in
    let more = takes_more before start left c.in_ok-take_piece.field-0 c.has_more.new.self c.take_piece.new.self
    c.pieces.raw.items c.take_piece.new.raw.items c.if-branch-2.false c.in_ok-take_piece.ensures.ok
    c.pieces.invariant.read c.in_ok-has_more.ensures.ok c.pieces.invariant.clean in
    record {
      clean = more.0;
      short = search rules;
      read = more.1;
      later = omega
          (arith, c.in_ok-has_more.ensures.cause.later, c.pieces.invariant.later);
    }

pub returns-clause-line : goal.returns-clause-line
returns-clause-line g c =
    let before = ahead c.args.lines.now (g.I.Source.left c.args.input.now) in
    let start = ahead c.pieces.lines (g.I.Source.left c.pieces.input) in
    let now = ahead c.has_more.new.self (g.I.Source.left c.has_more.new.input) in
    let end : IsAtEnd now = search rules in
    let some : 0 < length c.pieces.raw.items = grind (arith, nat_tests, c.pieces.raw.ok.0) in
    rw c.from_vec-2.ensures (takes_last before start now c.pieces.raw.items c.pieces.invariant.read
    c.in_ok-has_more.ensures.ok end c.pieces.invariant.clean (omega (arith, c.pieces.raw.ok.0)) some)

-- what was read stands in the line and in what is pending

pub returns-in_err-take_piece-clause-read : goal.returns-in_err-take_piece-clause-read
returns-in_err-take_piece-clause-read g c =
    loses_pending (ahead c.args.lines.now (g.I.Source.left c.args.input.now))
    (ahead c.pieces.lines (g.I.Source.left c.pieces.input)) (g.I.Source.left c.has_more.new.input)
    c.pieces.raw.items c.has_more.new.self c.pieces.invariant.read c.in_ok-has_more.ensures.ok

pub returns-then-branch-2-clause-read : goal.returns-then-branch-2-clause-read
returns-then-branch-2-clause-read g c =
    loses_pending (ahead c.args.lines.now (g.I.Source.left c.args.input.now))
    (ahead c.pieces.lines (g.I.Source.left c.pieces.input)) (g.I.Source.left c.has_more.new.input)
    c.pieces.raw.items c.has_more.new.self c.pieces.invariant.read c.in_ok-has_more.ensures.ok
