use Rattle.std.proofs.Common.{◌≡◌, Some, ap, refl, rules}
use Rattle.std.specs.Str.{is_utf8}
use Rattle.std.proofs.lemmas.Str.{IsUtf8-from_is_utf8, is_utf8-from_IsUtf8}
use Rattle.std.proofs.lemmas.Bool.{false_from_ne_true}
use Rattle.qq_script_lines.proofs.parse.text_in.Goals as goal

pub returns-in-Ok : goal.returns-in-Ok
returns-in-Ok c =
    let same : c.in-Ok.text.now ≡ c.args.line.now = search rules in
    rw (is_utf8-from_IsUtf8 c.args.line.now c.in-Ok.ensures.cases.1) (ap Some same)

pub returns-in-Err : goal.returns-in-Err
returns-in-Err c =
    rw (false_from_ne_true (is_utf8 c.args.line.now)
    (λ is. c.in-Err.ensures.cases.0 (IsUtf8-from_is_utf8 c.args.line.now is))) refl
