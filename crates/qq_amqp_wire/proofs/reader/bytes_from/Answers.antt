use Rattle.std.proofs.Common.{arith, subst, sym}
use Rattle.qq_base.specs.Fields.{AreBytes}
use Rattle.qq_fields.proofs.Laws.{AreBytes-drop}
use Rattle.qq_amqp_wire.proofs.reader.bytes_from.Goals as goal

pub returns-clause-bytes : goal.returns-clause-bytes
returns-clause-bytes c =
    subst AreBytes (sym c.split_at.ensures.back)
    (AreBytes-drop c.args.start c.args.bytes.now (λ i. omega (arith, c.type_inv.bytes i)))
