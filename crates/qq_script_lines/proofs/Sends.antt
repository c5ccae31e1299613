-- A line whose first word is `send`.
use Rattle.std.proofs.Common.{◌≡◌, ℕ, ◌<◌, true, List, [], ◌∷◌, Some, None, Err, length, codes, refl, sym, subst, arith}
use Rattle.std.specs.Str.{bytes_eq}
use Rattle.std.proofs.lemmas.Slice.Eq.{bytes_eq-Decides}
use Rattle.qq_route.specs.declared.setup.Setup.{Setup}
use Rattle.qq_script_lines.specs.declared.fault.ScriptFault.TheVariants.{Number}
use Rattle.qq_script_lines.specs.Words.{words_of}
use Rattle.qq_script_lines.specs.Numbers.{session_of}
use Rattle.qq_script_lines.specs.Arguments.{key_of, send}
use Rattle.qq_script_lines.specs.Lines.{read}
use Rattle.qq_script_lines.proofs.FirstWords.{some-word}

pub sends : (s : Setup) (line word : List ℕ) (words : List (List ℕ)) → bytes_eq word (codes "send") ≡ true
    → read s line word words ≡ send line words
unfolding read
sends s line word words is =
    subst (λ w. read s line w words ≡ send line words) (sym ((bytes_eq-Decides word (codes "send")).0 is)) refl

-- one of five words or more, the second of which is no session
no-number : (line session exchange key short : List ℕ) (words : List (List ℕ)) → 0 < length words
    → key_of key ≡ Some short → session_of session ≡ None → send line (session ∷ exchange ∷ key ∷ words) ≡ Err Number
unfolding send
no-number line session exchange key short [] some is-short none = absurd (omega (arith, some))
no-number line session exchange key short (word ∷ words) some is-short none = rw (is-short, none) refl

pub no-session : (line one session two exchange three key text short : List ℕ) → words_of one ≡ session ∷ words_of two
    → words_of two ≡ exchange ∷ words_of three → words_of three ≡ key ∷ words_of text → key_of key ≡ Some short
    → session_of session ≡ None → send line (words_of one) ≡ Err Number
no-session line one session two exchange three key text short first second third is-short none =
    rw (first, second, third)
    (no-number line session exchange key short (words_of text) (some-word text) is-short none)
