use Rattle.std.proofs.Common.{arith}
use Rattle.std.proofs.lemmas.Grind.{text_groups}
use Rattle.qq_route.proofs.exchange.add_under.Goals as goal

pub returns-in-Err-clause-err : goal.returns-in-Err-clause-err
returns-in-Err-clause-err c = λ key. grind (arith, text_groups)

pub returns-in-Ok-clause-ok : goal.returns-in-Ok-clause-ok
returns-in-Ok-clause-ok c = λ key. grind (arith, text_groups)
