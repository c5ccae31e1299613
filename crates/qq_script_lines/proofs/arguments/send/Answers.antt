use Rattle.std.proofs.Common.{◌≡◌, ◌∷◌, Some, None, rules}
use Rattle.qq_script_lines.specs.Arguments.{key_of}
use Rattle.qq_script_lines.specs.Numbers.{session_of}
use Rattle.qq_script_lines.specs.Words.{words_of}
use Rattle.qq_script_lines.proofs.Sends.{no-session}
use Rattle.qq_script_lines.proofs.arguments.send.Goals as goal

pub returns-in_default-session_of-clause-cause : goal.returns-in_default-session_of-clause-cause
returns-in_default-session_of-clause-cause c =
    let session = c.first_word.result.0.now in
    let key = c.first_word-3.result.0.now in
    let two = c.in_default-Some.rest.now in
    let three = c.in_default-Some-first_word.rest.now in
    let text = c.in_default-Some-first_word-2.text.now in
    let first : words_of c.args.rest.now ≡ session ∷ words_of two = search rules in
    let second : words_of two ≡ c.first_word-2.result.0.now ∷ words_of three = search rules in
    let third : words_of three ≡ key ∷ words_of text = search rules in
    let short : key_of key ≡ Some c.in-Some.key.now = search rules in
    let none : session_of session ≡ None = search rules in
    λ line _. no-session line c.args.rest.now session two c.first_word-2.result.0.now three key text
    c.in-Some.key.now first second third short none
