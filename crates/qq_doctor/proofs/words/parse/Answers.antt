use Rattle.std.proofs.Common.{refl, ◌≡◌, ◌∙◌, sym, true, true≢false}
use Rattle.qq_doctor.proofs.Refused.{refused}
use Rattle.qq_doctor.proofs.words.parse.Goals as goal

pub returns-else-eq-clause-ok : goal.returns-else-eq-clause-ok
returns-else-eq-clause-ok c =
    refused _ _ c.in-Err.error c.in_ok-program.ensures c.in-Err.ensures.kinds
    (λ is. let t : c.eq.result ≡ true = rw (c.eq.ensures, c.kind.ensures, is) refl in
    true≢false (sym t ∙ c.if-eq.false))
