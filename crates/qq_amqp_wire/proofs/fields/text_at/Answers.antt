use Rattle.std.proofs.Common.{◌≡◌, Bool, true, false, refl, arith}
use Rattle.std.specs.Str.{is_utf8}
use Rattle.std.proofs.lemmas.Str.{is_utf8-from_IsUtf8, IsUtf8-from_is_utf8}
use Rattle.std.proofs.lemmas.Grind.{common_steps}
use Rattle.qq_fields.specs.Reading.{checked}
use Rattle.qq_amqp_wire.specs.Arguments.{short_str_at}
use Rattle.qq_amqp_wire.proofs.fields.text_at.Goals as goal

pub returns-in-Ok : goal.returns-in-Ok
unfolding short_str_at checked
returns-in-Ok c = let e = is_utf8-from_IsUtf8 _ c.in-Ok.ensures.cases.1 in grind (arith, common_steps, e)

not_true : (b : Bool) → (b ≡ true → ⊥) → b ≡ false
not_true true refutes = absurd (refutes refl)
not_true false refutes = refl

pub returns-in-Err : goal.returns-in-Err
unfolding short_str_at checked
returns-in-Err c =
    let e = not_true (is_utf8 _) (λ t. c.in-Err.ensures.cases.0 (IsUtf8-from_is_utf8 _ t)) in grind
    (arith, common_steps, e)
