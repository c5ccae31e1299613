use Rattle.std.proofs.Common.{rules, arith, ◌≤◌, length, length-append, ap}
use Rattle.std.proofs.lemmas.Grind.{common_steps}
use Rattle.std.proofs.lemmas.Fmt.{length-decimal-le}
use Rattle.std.specs.Fmt.{decimal}
use Rattle.qq_script.proofs.piece.Piece.put_number.Goals as goal

pub write_digits-self-inside-requires : goal.write_digits-self-inside-requires
write_digits-self-inside-requires c =
    let short : length (decimal c.args.number) ≤ 20 = search (rules, length-decimal-le 20) in
    grind (arith, common_steps, short, ap length c.self.view_is)

pub returns-clause-length : goal.returns-clause-length
returns-clause-length c =
    let short : length (decimal c.args.number) ≤ 20 = search (rules, length-decimal-le 20) in
    rw c.write_digits-self-inside.ensures.written (grind (arith, common_steps, short, length-append, ap length c.self.view_is))
